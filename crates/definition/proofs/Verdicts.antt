-- What a verdict tells, and the verdict on a default.
-- Assumes nothing.
use Prim.Native.Nat.{ℕ}
use mathlib.Core.Bool.{Bool, true, false, ◌||◌}
use mathlib.Core.List.{List}
use mathlib.Core.Path.{◌≡◌, refl, sym, ap, ◌∙◌}
use Rattle.std.specs.Prelude.{Some, None}
use Rattle.brackets.specs.Stacks.{Full, Settled, full}
use Rattle.brackets.proofs.Settling.{settled_full, settled_over}
use Rattle.storing.specs.Stored.{stored}
use Rattle.storing.specs.Graves.{has_grave}
use Rattle.afresh.specs.Unfit.{unfit_default}
use Rattle.afresh.specs.Feeding.{verdict_of}
use Rattle.definition.specs.Definitions.{bad_formal}
use Rattle.definition.specs.Answers.{FreeDefault}
use Rattle.definition.specs.declared.Formal.{Formal}
use Rattle.definition.proofs.Shielded.{default_more}

-- a verdict on a test tells the test, or that there is no room; and one that is given
module _ {b : Bool} {w : List ℕ} {n : ℕ} where
  pub told : {x : Bool} → Settled w n None (verdict_of b) (Some x) → b ≡ x
  told h = let e = settled_full h (λ q. cc) in cc

  pub told_short : Settled w n None (verdict_of b) None → Full w n
  told_short h = settled_over h refl (λ q. cc)

  pub answered : {x : Bool} → b ≡ x → Settled w n None (verdict_of b) (Some x)
  answered e = full (ap verdict_of (sym e))

-- a test that comes first, and what is left behind it
pub or_first : (a b : Bool) → a ≡ true → (a || b) ≡ true
or_first a b e = rw e

pub or_next : (a b : Bool) → a ≡ false → (a || b) ≡ b
or_next a b e = rw e

-- the verdict on a formal's default
module _ (s : List ℕ) (f : Formal) where
  pub plain_formal : f.given ≡ false → bad_formal s f ≡ false
  unfolding bad_formal
  plain_formal e = rw e

  module _ (g : f.given ≡ true) (b : Bool) (e : b ≡ has_grave s f.first f.stop) where
    pub grave_formal : b ≡ true → bad_formal s f ≡ true
    unfolding bad_formal
    grave_formal q = rw (g, ← e, q)

    pub stored_formal : b ≡ false → FreeDefault s f → unfit_default (stored s f.first f.stop) ≡ bad_formal s f
    unfolding bad_formal
    stored_formal q u = rw (g, ← e, q) (default_more s f u g (sym e ∙ q))
