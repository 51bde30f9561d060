-- What a sheet's lines ask.
use Rattle.std.specs.Prelude.{List, IsOk, All}
use Rattle.scoresheet.specs.declared.script.Item.{Item}

-- no line is wrong
abbrev pub AllAsked : List Item → Type 0
AllAsked items = All (λ item. IsOk item.ask) items
