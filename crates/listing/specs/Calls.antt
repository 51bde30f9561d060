-- What the words of a line say.
use Rattle.std.specs.Prelude.{◌≡◌, ℕ, List, [], ◌∷◌, Some, None, Ok, Err, codes, Option, Result, map, zero, suc}
use Rattle.matrix.specs.Orders.{order_word}
use Rattle.listing.specs.declared.name.Name.{Name}
use Rattle.listing.specs.declared.call.SheetKind.{SheetKind}
use Rattle.listing.specs.declared.call.SheetKind.TheVariants.{Passages, Penalties}
use Rattle.listing.specs.declared.call.Ground.{Ground}
use Rattle.listing.specs.declared.call.Keeping.{Keeping}
use Rattle.listing.specs.declared.call.Fresh.{Fresh}
use Rattle.listing.specs.declared.call.Call.{Call}
use Rattle.listing.specs.declared.wrong.Wrong.{Wrong}
use Rattle.listing.specs.Names.{name_word}
use Rattle.listing.specs.Spellings.{Nothing, Number}
use denote.Ref.{Bor}

-- The words, of which each is a text.
abbrev pub texts : List (Bor (List ℕ)) → List (List ℕ)
texts ws = map (λ w. w.now) ws

abbrev pub kind_word : SheetKind → List ℕ
kind_word Passages = codes "passages"
kind_word Penalties = codes "penalties"

-- a ground, and the words after it
abbrev pub SaysGround : List (List ℕ) → Ground × List (List ℕ) → Type 0
SaysGround ws (Ground.Grid order n, rest) = (a : List ℕ) × (ws ≡ codes "grid" ∷ order_word order ∷ a ∷ rest) × Number 64 a n
SaysGround ws (Ground.Seats n, rest) = (a : List ℕ) × (ws ≡ codes "seats" ∷ a ∷ rest) × Number 64 a n

-- the words begin with as many words `turned`, and then come the others
abbrev pub Turned : ℕ → List (List ℕ) → List (List ℕ) → Type 0
Turned zero ws rest = ws ≡ rest
Turned (suc n) ws rest = (more : List (List ℕ)) × (ws ≡ codes "turned" ∷ more) × Turned n more rest

-- the first of the words, if there is one, is not `turned`
abbrev pub Other : List (List ℕ) → Type 0
Other ws = (more : List (List ℕ)) → ws ≡ codes "turned" ∷ more → ⊥

abbrev pub SaysKeep : List (List ℕ) → Keeping → Type 0
SaysKeep ws (Keeping.Stack n) = (a : List ℕ) × (ws ≡ codes "stack" ∷ a ∷ []) × Number 64 a n
SaysKeep ws (Keeping.Joined m n) = (a : List ℕ) × (b : List ℕ) × (ws ≡ codes "joined" ∷ a ∷ b ∷ []) × Number 64 a m × Number 64 b n

-- a kind, a ground after as many turns, and a keep
abbrev pub SaysSheet : List (List ℕ) → Fresh → Type 0
SaysSheet ws f = (words : List (List ℕ)) × (rest : List (List ℕ)) × (last : List (List ℕ)) × (ws ≡ kind_word f.kind ∷ words)
    × Turned f.layout.turns words rest × SaysGround rest (f.layout.ground, last) × SaysKeep last f.keeping

-- the memory for a line, 256 cells where it is left out
abbrev pub SaysRoom : List (List ℕ) → ℕ → Type 0
SaysRoom [] n = n ≡ 256
SaysRoom (a ∷ []) n = Number 64 a n
SaysRoom (a ∷ b ∷ ws) n = ⊥

-- a place
abbrev pub SaysPlace : List (List ℕ) → ℕ × ℕ → Type 0
SaysPlace ws p = (a : List ℕ) × (b : List ℕ) × (ws ≡ a ∷ b ∷ []) × Number 64 a p.0 × Number 64 b p.1

-- a place and the word of a cell
abbrev pub SaysPut : List (List ℕ) → ℕ × ℕ × Bor (List ℕ) → Type 0
SaysPut ws p = (a : List ℕ) × (b : List ℕ) × (ws ≡ a ∷ b ∷ p.2.now ∷ []) × Number 64 a p.0 × Number 64 b p.1

-- where a line goes in, and the words of its cells
abbrev pub SaysInsertion : List (List ℕ) → ℕ × Bor (List (Bor (List ℕ))) → Type 0
SaysInsertion ws p = (a : List ℕ) × (ws ≡ a ∷ texts p.1.now) × Number 64 a p.0

-- which line goes, and the memory for it
abbrev pub SaysRemoval : List (List ℕ) → ℕ × ℕ → Type 0
SaysRemoval ws p = (a : List ℕ) × (rest : List (List ℕ)) × (ws ≡ a ∷ rest) × Number 64 a p.0 × SaysRoom rest p.1

-- no words say a call that is its name alone
abbrev pub SaysAlone : Call → List (List ℕ) → Call → Type 0
SaysAlone call ws x = (x ≡ call) × (ws ≡ [])

-- The words after each name, and the call that they say.
abbrev pub SaysCall : Name → List (List ℕ) → Call → Type 0
SaysCall Name.New ws x = (f : Fresh) × (x ≡ Call.New f) × SaysSheet ws f
SaysCall Name.Start ws x = (cells : Bor (List (Bor (List ℕ)))) × (x ≡ Call.Start cells) × (ws ≡ texts cells.now)
SaysCall Name.Put ws x = (p : ℕ × ℕ × Bor (List ℕ)) × (x ≡ Call.Put p.0 p.1 p.2) × SaysPut ws p
SaysCall (Name.Insert ax) ws x = (p : ℕ × Bor (List (Bor (List ℕ)))) × (x ≡ Call.Insert ax p.0 p.1) × SaysInsertion ws p
SaysCall (Name.Remove ax) ws x = (i : ℕ) × (room : ℕ) × (x ≡ Call.Remove ax i room) × SaysRemoval ws (i, room)
SaysCall Name.Transpose ws x = SaysAlone Call.Transpose ws x
SaysCall (Name.Flip ax) ws x = SaysAlone (Call.Flip ax) ws x
SaysCall Name.StepBack ws x = (room : ℕ) × (x ≡ Call.StepBack room) × SaysRoom ws room
SaysCall Name.Publish ws x = SaysAlone Call.Publish ws x
SaysCall Name.Reopen ws x = SaysAlone Call.Reopen ws x
SaysCall Name.Size ws x = SaysAlone Call.Size ws x
SaysCall Name.Get ws x = (r : ℕ) × (c : ℕ) × (x ≡ Call.Get r c) × SaysPlace ws (r, c)
SaysCall Name.Owed ws x = SaysAlone Call.Owed ws x
SaysCall Name.Kept ws x = SaysAlone Call.Kept ws x
SaysCall Name.Settled ws x = SaysAlone Call.Settled ws x
SaysCall Name.Show ws x = SaysAlone Call.Show ws x
SaysCall Name.Tally ws x = SaysAlone Call.Tally ws x

-- A line is read as nothing where it has no word, as a call that it says, or as what is wrong with it: it begins with no name, or
-- with a name, and the words after it say no call of that name.
abbrev pub Reads : List (List ℕ) → Result (Option Call) Wrong → Type 0
Reads ws (Ok None) = ws ≡ []
Reads ws (Ok (Some call)) = (name : Name) × (rest : List (List ℕ)) × (ws ≡ name_word name ∷ rest) × SaysCall name rest call
Reads ws (Err (Wrong.NoName)) = (name : Name) (rest : List (List ℕ)) → ws ≡ name_word name ∷ rest → ⊥
Reads ws (Err (Wrong.Usage name)) = (rest : List (List ℕ)) × (ws ≡ name_word name ∷ rest) × Nothing (SaysCall name rest)
Reads ws (Err (Wrong.NoSheet)) = ⊥
Reads ws (Err (Wrong.Late)) = ⊥
Reads ws (Err (Wrong.NoCell kind at)) = ⊥
Reads ws (Err (Wrong.Published)) = ⊥
Reads ws (Err (Wrong.Open)) = ⊥
