-- The verdict on a text or a default of which all is read: what is bad of it is what is bad of it without white space at its ends.
-- Assumes nothing.
use Prim.Native.Nat.{ℕ, ◌+◌, ◌≤◌}
use mathlib.Core.Bool.{Bool, true, false}
use mathlib.Core.List.{List, [], ◌∷◌}
use mathlib.Core.Path.{◌≡◌, refl, ap, sym, ◌∙◌, subst}
use native.Mathlib.Nat.{le_trans}
use native.Mathlib.Omega.{arith}
use lib.ListN.{length}
use Rattle.std.specs.Prelude.{Option, None}
use Rattle.lex.specs.Classes.{is_space}
use Rattle.brackets.specs.Stacks.{stack_of, Full, Settled, full, over}
use Rattle.brackets.proofs.Stacking.{full_more}
use Rattle.storing.specs.Stored.{keep, trim_left, trim_right}
use Rattle.afresh.specs.declared.Reading.{Reading}
use Rattle.afresh.specs.States.{reading, ended, begun}
use Rattle.afresh.specs.Feeding.{state_of, Sound, verdict_of}
use Rattle.afresh.specs.Unfit.{is_unfit_as}
use Rattle.afresh.proofs.Spaces.{trimmed}
use Rattle.afresh.proofs.Meaning.{meaning}
use Rattle.judging.proofs.Feeding.{Feeding, feeding_first}

-- before the first byte
abbrev pub starting : Bool → Reading
starting text = record { state = 0; text = text; marks = false; grave = false; count = 0; depth = 0 }

starting_sound : (text : Bool) (name stack : List ℕ) → 1025 ≤ length name → Sound (starting text) name stack
starting_sound text name stack h = record { long = h; count = omega arith; depth = omega arith }

pub feeding_starts : {text : Bool} {r : Reading} {name stack whole : List ℕ} → r ≡ starting text → 1025 ≤ length name
    → Feeding (starting text) name stack r name stack whole whole
feeding_starts {text} {r} {name} {stack} {whole} e h =
    subst (λ (q : Reading). Feeding (starting text) name stack q name stack whole whole) (sym e) (feeding_first (starting_sound text name stack h))

starting_state : (text : Bool) (name stack : List ℕ) → state_of (starting text) name stack ≡ begun text
unfolding stack_of
starting_state text name stack = refl

-- the name is in its buffer
pub sound_count : {r : Reading} {name stack : List ℕ} → Sound r name stack → r.count ≤ length name
sound_count s = le_trans s.count s.long

-- what is trimmed stays so
keep_trimmed : (x : ℕ) (w : List ℕ) → trim_right w ≡ w → trim_right (keep x w) ≡ keep x w
unfolding trim_right
keep_trimmed x [] e = go (is_space x) refl
  where
    go : (b : Bool) → is_space x ≡ b → trim_right (keep x []) ≡ keep x []
    go true z = rw z
    go false z = rw (z, z)
keep_trimmed x (y ∷ ys) e = ap (keep x) e

trim_twice : (w : List ℕ) → trim_right (trim_right w) ≡ trim_right w
unfolding trim_right
trim_twice [] = refl
trim_twice (x ∷ xs) = keep_trimmed x (trim_right xs) (trim_twice xs)

-- the end of what is read as it stands
ended_bad : (text : Bool) (w : List ℕ) → ended (reading (begun text) w) ≡ is_unfit_as text (trim_right (trim_left w))
ended_bad text w = sym (trimmed text w) ∙ meaning text (trim_right (trim_left w)) (trim_twice (trim_left w))

pub judged_end : (text : Bool) (whole name₀ stack₀ : List ℕ) (n : ℕ) (v : Option Bool) {q : Reading} {name stack rest : List ℕ}
    → Feeding (starting text) name₀ stack₀ q name stack rest whole → rest ≡ [] → ((w : List ℕ) → v ≡ verdict_of (ended (state_of q name w)))
    → Settled stack₀ n None (verdict_of (is_unfit_as text (trim_right (trim_left whole)))) v
unfolding reading
judged_end text whole name₀ stack₀ n v {q} {name} {stack} a e h =
    let z : reading (state_of q name stack) [] ≡ reading (begun text) whole =
    ap (reading (state_of q name stack)) (sym e)
    ∙ (a.reads ∙ ap (λ s. reading s whole) (starting_state text name₀ stack₀)) in
    full (h stack ∙ (ap (λ s. verdict_of (ended s)) z ∙ ap verdict_of (ended_bad text whole)))

-- the brackets have no room for the m bytes read
pub judged_short : {right v : Option Bool} {stack : List ℕ} {m n : ℕ} → m ≤ n → v ≡ None → Full stack (0 + m) → Settled stack n None right v
judged_short {stack = stack} {m} {n} l e f = over e (full_more stack (0 + m) n f (omega arith))
