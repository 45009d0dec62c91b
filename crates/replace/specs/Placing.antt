-- What the code of one replacement answers: formals read in the macro bytes, references added, the pending list then.
-- Assumes nothing.
use Rattle.std.specs.Prelude.{ℕ, suc, ◌+◌, ◌-◌, ◌<◌, ◌≤◌, cond, ◌≡◌, List, [], ◌∷◌, ◌++◌, length, take, drop, get_or, Option, Some}
use Rattle.text.specs.Bytes.{same, part}
use Rattle.definition.specs.Definitions.{Parameter, parameter}
use Rattle.form.specs.Forms.{parameter_forms}
use Rattle.packed.specs.declared.Record.{Record}
use Rattle.pending.specs.Pending.{Pending}
use Rattle.lex.specs.declared.Token.{Token}
use Rattle.sets.specs.declared.MacroSet.{MacroSet}
use Rattle.pending.specs.declared.Pend.{Pend}
use Rattle.pending.specs.References.{Store, pendings, stacked}
use Rattle.pending.specs.Adding.{Takes}
use Rattle.arguments.specs.Ranges.{Ranged, placed_from, placed_to, Unplaced}
use Rattle.replace.specs.declared.Which.{Which}
use Rattle.replace.specs.Tidying.{tidy}
use Rattle.replace.specs.Replacing.{deepest}

-- the forms of the formals fs lie in b from i on
pub record FormalsAt (b : List ℕ) (i : ℕ) (fs : List Parameter) : Type 0 where
  pub small : length b ≤ 65536
  pub fits : i + length (parameter_forms fs) ≤ length b
  pub bytes : take (length (parameter_forms fs)) (drop i b) ≡ parameter_forms fs

-- b holds a macro with the formals fs and the text t, by its record q
pub record MacroIn (b : List ℕ) (q : Record) (fs : List Parameter) (t : List ℕ) : Type 0 where
  pub count : get_or b (q.start + q.name) 0 ≡ length fs
  pub formals : FormalsAt b (q.start + q.name + 1) fs
  pub text : part b q.text (q.text + q.size) ≡ t
  pub within : q.text + q.size ≤ length b

-- a usage of a macro that b holds, its arguments in ranges
pub record UsageIn (b : List ℕ) (q : Record) (f : ℕ → List Pending) (last : ℕ) (ranges : List (List ℕ)) (given : ℕ) : Type 0 where
  pub formals : List Parameter
  pub text : List ℕ
  pub arguments : List (List Pending)
  pub macro_in : MacroIn b q formals text
  pub count : given ≡ length arguments
  pub ranged : Ranged f last ranges arguments
  pub unplaced : Unplaced ranges given

-- the reference of a token of the part of the macro bytes that starts at `base`
abbrev pub stored_ref : ℕ → Token → MacroSet → Pend
stored_ref base t set =
    record { kind = t.kind; source = Store; start = base + t.at; from = base + t.from; end = base + t.end; set = set }

-- those of the first c arguments that were put in place end there at or before n
abbrev pub PlacedBefore : List (List ℕ) → ℕ → ℕ → Type 0
PlacedBefore r c n = (k : ℕ) → k < c → k < length r → placed_from r k ≤ placed_to r k → placed_to r k ≤ n

-- each argument that was put in place stands there in the tokens ps of the replacement so far
abbrev pub PlacedIn : List Pending → List (List ℕ) → List (List Pending) → Type 0
PlacedIn ps r xs =
    (k : ℕ) → k < length xs → k < length r → placed_from r k ≤ placed_to r k
    → (placed_to r k ≤ length ps) × (take (placed_to r k - placed_from r k) (drop (placed_from r k) ps) ≡ tidy (get_or xs k []))

-- the arguments xs can be read in their list by the ranges r, and where they were put in place
pub record Ready (f : ℕ → List Pending) (last : ℕ) (r : List (List ℕ)) (xs : List (List Pending)) (ps : List Pending) : Type 0 where
  pub ranged : Ranged f last r xs
  pub placed : PlacedIn ps r xs

-- and still, if what was to be added to o was
abbrev pub ReadyBy : Option ℕ → List ℕ → List ℕ → (ℕ → List Pending) → ℕ → List (List ℕ) → List (List ℕ) → List (List Pending) → Type 0
ReadyBy w s b f last o r xs = (m : ℕ) → w ≡ Some m → Ready f last r xs (pendings s b (take m o))

-- what is lent to put a token t of the text w in place, which starts at `base` of the macro bytes b
pub record Images (l : List (List ℕ)) (n : ℕ) (r : List (List ℕ)) (given : ℕ) (b : List ℕ) (first count base : ℕ) (w : List ℕ) (t : Token) (o : List (List ℕ)) (most at : ℕ) : Type 0 where
  pub filled : n ≤ length l
  pub ranges : 256 ≤ length r
  pub placed : PlacedBefore r given at
  pub bytes : length b ≤ 65536
  pub formals : count ≤ 255
  pub first_small : first ≤ 8589934592
  pub part_is : w ≡ part b base (base + length w)
  pub base_small : base ≤ 4294967296
  pub inside : (t.at ≤ t.end) × (t.from ≤ t.end) × (t.end ≤ length w)
  pub takes : Takes o most at

-- which formal has the name w, or how many there are
unfoldable pub formal_index : List ℕ → List Parameter → ℕ
formal_index w [] = 0
formal_index w (parameter f d ∷ fs) = let r = formal_index w fs in cond (same w f) 0 (suc r)

-- formal k of fs, whose form starts at i, is the one of that name, or there is none
pub record WhichIs (b : List ℕ) (fs : List Parameter) (w : List ℕ) (r : Which) : Type 0 where
  pub number_is : r.number ≡ formal_index w fs
  pub there : r.number < length fs → FormalsAt b r.at (drop r.number fs)

-- the first m references of o are put on the first n of l, the first token last
pub record Stacks (s b : List ℕ) (l l' : List (List ℕ)) (n : ℕ) (o : List (List ℕ)) (m d : ℕ) : Type 0 where
  pub tokens : stacked s b l' (n + m) ≡ pendings s b (take m o) ++ stacked s b l n
  pub depth : d ≡ deepest (pendings s b (take m o))
