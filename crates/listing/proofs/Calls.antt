-- Words say one call at most.
use Rattle.std.proofs.Common.{◌≡◌, ℕ, zero, suc, ◌+◌, List, [], ◌∷◌, codes, length, ◌≤◌, ◌-◌, get_or, take, drop, take_all, ap, sym, ◌∙◌, subst, Bor, Ok, None, Option, Result, arith, rules}
use Rattle.matrix.specs.Words.{Named}
use Rattle.listing.specs.declared.call.Fresh.{Fresh}
use Rattle.listing.specs.declared.call.Ground.{Ground}
use Rattle.listing.specs.declared.call.SheetKind.{SheetKind}
use Rattle.listing.specs.Spellings.{Nothing, Read}
use Rattle.listing.specs.Calls.{SaysSheet, SaysGround, SaysKeep, Turned, Other, kind_word, texts}

-- one word more
pub turned_more : (n : ℕ) (ws r : List (List ℕ)) → Turned n ws (codes "turned" ∷ r) → Turned (suc n) ws r
turned_more zero ws r h = (r, h, search rules)
turned_more (suc n) ws r h = (h.0, h.1, turned_more n h.0 r h.2)

pub texts_cons : (ws : List (Bor (List ℕ))) (d : Bor (List ℕ)) (w : List ℕ) → 1 ≤ length ws → (get_or ws 0 d).now ≡ w
    → texts ws ≡ w ∷ texts (take (length ws - 1) (drop 1 ws))
texts_cons [] d w h e = absurd (omega (arith, h))
texts_cons (x ∷ xs) d w h e =
    let all : take (suc (length xs) - 1) xs ≡ xs = take_all (suc (length xs) - 1) xs (omega arith) in
    ap (λ (v : List ℕ). v ∷ texts xs) e ∙ ap (λ (ys : List (Bor (List ℕ))). w ∷ texts ys) (sym all)

pub turned_step : (n : ℕ) (ws r s : List (List ℕ)) → Turned n ws r → r ≡ codes "turned" ∷ s → Turned (n + 1) ws s
turned_step n ws r s h e =
    let more : Turned (suc n) ws s = turned_more n ws s (subst (λ (x : List (List ℕ)). Turned n ws x) e h) in
    let next : suc n ≡ n + 1 = omega arith in subst (λ (k : ℕ). Turned k ws s) next more

-- what comes after the words `turned` is one list
pub turned_once : (n m : ℕ) (ws r s : List (List ℕ)) → Turned n ws r → Turned m ws s → Other r → Other s → r ≡ s
turned_once zero zero ws r s h k u v = sym h ∙ k
turned_once zero (suc m) ws r s h k u v = absurd (u k.0 (sym h ∙ k.1))
turned_once (suc n) zero ws r s h k u v = absurd (v h.0 (sym k ∙ h.1))
turned_once (suc n) (suc m) ws r s h k u v =
    let e : k.0 ≡ h.0 = search (rules, k.1, h.1) in turned_once n m h.0 r s h.2 (subst (λ (x : List (List ℕ)). Turned m x s) e k.2) u v

-- a ground begins with no word `turned`
pub ground_other : (ws : List (List ℕ)) (g : Ground) (last : List (List ℕ)) → SaysGround ws (g, last) → Other ws
ground_other ws (Ground.Grid order n) last h more e = search (rules, h.1, e)
ground_other ws (Ground.Seats n) last h more e = search (rules, h.1, e)

-- what comes after the words of a ground is one list
pub ground_once : (ws : List (List ℕ)) (g k : Ground) (r s : List (List ℕ)) → SaysGround ws (g, r) → SaysGround ws (k, s) → r ≡ s
ground_once ws (Ground.Grid o n) (Ground.Grid p m) r s h e = search (rules, h.1, e.1)
ground_once ws (Ground.Grid o n) (Ground.Seats m) r s h e = search (rules, h.1, e.1)
ground_once ws (Ground.Seats n) (Ground.Grid p m) r s h e = search (rules, h.1, e.1)
ground_once ws (Ground.Seats n) (Ground.Seats m) r s h e = search (rules, h.1, e.1)

-- the ground of a sheet stands after its turns
pub sheet_ground : (ws words rest : List (List ℕ)) (kind : SheetKind) (n : ℕ) (f : Fresh) → ws ≡ kind_word kind ∷ words
    → Turned n words rest → Other rest → SaysSheet ws f → (last : List (List ℕ)) × SaysGround rest (f.layout.ground, last) × SaysKeep last f.keeping
sheet_ground ws words rest kind n f e t other h =
    let tail : h.0 ≡ words = search (rules, e, h.3) in
    let moved : Turned f.layout.turns words h.1 = subst (λ (x : List (List ℕ)). Turned f.layout.turns x h.1) tail h.4 in
    let same : h.1 ≡ rest = turned_once f.layout.turns n words h.1 rest moved t (ground_other h.1 f.layout.ground h.2 h.5) other in
    (h.2, subst (λ (x : List (List ℕ)). SaysGround x (f.layout.ground, h.2)) same h.5, h.6)

-- no sheet fits where no ground comes after the turns
pub no_ground : (ws words rest : List (List ℕ)) (kind : SheetKind) (n : ℕ) → ws ≡ kind_word kind ∷ words → Turned n words rest
    → Other rest → Nothing (SaysGround rest) → Nothing (SaysSheet ws)
no_ground ws words rest kind n e t other none f h =
    let ground : (last : List (List ℕ)) × SaysGround rest (f.layout.ground, last) × SaysKeep last f.keeping = sheet_ground ws words rest kind n f e t other h in
    none (f.layout.ground, ground.0) ground.1

-- no sheet fits where no keep comes after the ground
pub no_keep : (ws words rest last : List (List ℕ)) (kind : SheetKind) (n : ℕ) (g : Ground) → ws ≡ kind_word kind ∷ words
    → Turned n words rest → Other rest → SaysGround rest (g, last) → Nothing (SaysKeep last) → Nothing (SaysSheet ws)
no_keep ws words rest last kind n g e t other stands none f h =
    let ground : (last : List (List ℕ)) × SaysGround rest (f.layout.ground, last) × SaysKeep last f.keeping = sheet_ground ws words rest kind n f e t other h in
    none f.keeping (subst (λ (x : List (List ℕ)). SaysKeep x f.keeping) (ground_once rest f.layout.ground g ground.0 last ground.1 stands) ground.2)

-- words that were read as nothing
pub nothing_read : {W A : Type 0} (says : W → A → Type 0) (w : W) (r : Option A) → r ≡ None → Read says w r → Nothing (says w)
nothing_read says w r e h = subst (λ q. Read says w q) e h

-- a word that was read
pub told : {X E : Type 0} (word : X → List ℕ) (w : List ℕ) (r : Result X E) (x : X) → Named word w r → r ≡ Ok x → w ≡ word x
told word w r x h e = subst (λ q. Named word w q) e h
