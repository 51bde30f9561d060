use Rattle.listing.proofs.call.named.Goals as goal

pub returns-in_err-sheet-in-New : goal.returns-in_err-sheet-in-New
returns-in_err-sheet-in-New c = record { call = rw (c.in-New.is, c.from_residual.ensures) (λ x h. c.in_err-sheet-in-New.ensures.sheet h.0 h.2) }

pub returns-in_err-r-in-Put : goal.returns-in_err-r-in-Put
returns-in_err-r-in-Put c = record { call = rw (c.in-Put.is, c.from_residual-in_err-r-in-Put.ensures) (λ x h. c.in_err-r-in-Put.ensures.put h.0 h.2) }

pub returns-in_err-i-in-Insert : goal.returns-in_err-i-in-Insert
returns-in_err-i-in-Insert c = record { call = rw (c.in-Insert.is, c.from_residual-in_err-i-in-Insert.ensures) (λ x h. c.in_err-i-in-Insert.ensures.insertion h.0 h.2) }

pub returns-in_err-i-in-Remove : goal.returns-in_err-i-in-Remove
returns-in_err-i-in-Remove c = record { call = rw (c.in-Remove.is, c.from_residual-in_err-i-in-Remove.ensures) (λ x h. c.in_err-i-in-Remove.ensures.removal (h.0, h.1) h.3) }

pub returns-in_err-r-in-Get : goal.returns-in_err-r-in-Get
returns-in_err-r-in-Get c = record { call = rw (c.in-Get.is, c.from_residual-in_err-r-in-Get.ensures) (λ x h. c.in_err-r-in-Get.ensures.place (h.0, h.1) h.3) }
