-- Where the tokens of an argument list are sought: "in that same list (in the file, for the first usage)". A position is an
-- offset in the file, or how many tokens of the pending list are passed.
-- Assumes nothing.
use Rattle.std.specs.Prelude.{ℕ, ◌<◌, ◌≤◌, Bool, cond, ◌≡◌, List, [], ◌∷◌, length, drop, Option, Some, None}
use Rattle.pending.specs.declared.Item.{Item}
use Rattle.pending.specs.Pending.{Pending, file_from}
use Rattle.pending.specs.References.{pending_by, stacked}

-- the tokens from position i on: of the file s, or of the pending list of n references in l
unfoldable pub items_from : List ℕ → List ℕ → List (List ℕ) → ℕ → Bool → ℕ → List Pending
items_from s b l n file i = cond file (file_from s i) (drop i (stacked s b l n))

-- its last position
abbrev pub last_of : List ℕ → ℕ → Bool → ℕ
last_of s n file = cond file (length s) n

-- the token that an item stands for; in a file also where it starts and what bars it
abbrev pub item_of : List ℕ → List ℕ → Item → Pending
item_of s b t =
    let p = pending_by s b t.pend in
    record { kind = p.kind; bytes = p.bytes; name = p.name; own = p.own; at = t.at; bar = t.bar }

-- the first of the tokens f from i on, and where the next begins
pub record ItemIs (f : ℕ → List Pending) (last i : ℕ) (p : Pending) (next : ℕ) : Type 0 where
  pub tokens : f i ≡ p ∷ f next
  pub past : i < next
  pub within : next ≤ last

abbrev pub SeenBy : Option Item → List ℕ → List ℕ → (ℕ → List Pending) → ℕ → ℕ → Type 0
SeenBy (Some t) s b f last i = ItemIs f last i (item_of s b t) t.next
SeenBy None s b f last i = f i ≡ []

-- ps are the tokens from position i to before position e
pub data Spans (f : ℕ → List Pending) : ℕ → ℕ → List Pending → Type 0 where
  none : {i : ℕ} → Spans f i i []
  more : {i j e : ℕ} {p : Pending} {ps : List Pending} → i < j → f i ≡ p ∷ f j → Spans f j e ps → Spans f i e (p ∷ ps)
