-- A verdict on no more than 65,535 bytes, with room for their brackets, is the right one.
-- Assumes nothing.
use Prim.Native.Nat.{ℕ, ◌≤◌}
use mathlib.Core.Bool.{Bool, true, false, not}
use mathlib.Core.List.{List}
use mathlib.Core.Logic.{⊎_elim}
use mathlib.Core.Path.{◌≡◌, refl, sym, ap, subst, ◌∙◌}
use native.Mathlib.Omega.{arith}
use lib.ListN.{length}
use Rattle.std.specs.Prelude.{Option, Some, None}
use Rattle.text.proofs.Matching.{same_equal}
use Rattle.brackets.specs.Stacks.{Settled, full, over}
use Rattle.storing.specs.Stored.{trim_left, trim_right}
use Rattle.afresh.specs.Feeding.{verdict_of}
use Rattle.afresh.specs.Unfit.{is_unfit_as}
use Rattle.genuine.specs.Fitness.{is_trimmed, fit_stored}
use Rattle.genuine.proofs.Testing.{no, yes}

-- the code's answer to a verdict
abbrev is_good : Option Bool → Bool
is_good (Some bad) = not bad
is_good None = false

good_told : (b : Bool) → is_good (verdict_of b) ≡ not b
good_told b = refl

judged : (b : Bool) {s : List ℕ} {n : ℕ} {v : Option Bool} → 16384 ≤ length s → n ≤ 65535 → Settled s n None (verdict_of b) v → is_good v ≡ not b
judged b h k (full e) = ap is_good e ∙ good_told b
judged b h k (over e f) = absurd (⊎_elim (λ p. omega arith) (λ p. omega arith) f)

module _ (text : Bool) (w : List ℕ) {a : Bool} (t : a ≡ is_trimmed w) where
  pub stored_ragged : not a ≡ true → false ≡ fit_stored text w
  unfolding fit_stored
  stored_ragged n = rw (no t n)

  module _ {s : List ℕ} {v : Option Bool} (y : not a ≡ false) (h : 16384 ≤ length s) (k : length w ≤ 65535) (j : Settled s (length w) None (verdict_of (is_unfit_as text (trim_right (trim_left w)))) v) where
    told : is_good v ≡ fit_stored text w
    unfolding fit_stored
    told =
        let e : trim_right (trim_left w) ≡ w = same_equal (trim_right (trim_left w)) w (yes t y) in
        rw (yes t y) (judged (is_unfit_as text w) h k (subst (λ (u : List ℕ). Settled s (length w) None (verdict_of (is_unfit_as text u)) v) e j))

    pub stored_told : {b : Bool} → v ≡ Some b → not b ≡ fit_stored text w
    stored_told e = sym (ap is_good e) ∙ told

    pub stored_short : v ≡ None → false ≡ fit_stored text w
    stored_short e = sym (ap is_good e) ∙ told
