-- A definition in ignored text as the code judges it: the lent bytes are enough for the brackets of any file.
-- Assumes nothing.
use Prim.Native.Nat.{ℕ, ◌≤◌}
use mathlib.Core.List.{List}
use mathlib.Core.Logic.{⊎_elim}
use mathlib.Core.Path.{◌≡◌, sym, ◌∙◌}
use native.Mathlib.Omega.{arith}
use lib.ListN.{length}
use Rattle.std.specs.Prelude.{Ok, Err}
use Rattle.lex.specs.Faults.{fault}
use Rattle.definition.specs.Definitions.{Definition, barred, bad, good, definition_at}
use Rattle.brackets.specs.Stacks.{Settled, full, over}
use Rattle.definition.specs.Answers.{judged_of}
use Rattle.definition.specs.declared.Judged.{Judged}
use Rattle.definition.specs.declared.Judged.TheVariants as judged
use Rattle.steps.specs.Hiding.{hidden_by}

module _ (s stack : List ℕ) (at : ℕ) (j : Judged) (settled : Settled stack (length s) judged.Short (judged_of (definition_at s at)) j)
    (small : length s ≤ 65535) (long : 16384 ≤ length stack) where
  right : j ≡ judged_of (definition_at s at)
  right = go settled
    where
      go : Settled stack (length s) judged.Short (judged_of (definition_at s at)) j → j ≡ judged_of (definition_at s at)
      go (full e) = e
      go (over e f) = absurd (⊎_elim (λ g. omega arith) (λ g. omega arith) f)

  pub judged_barred : (n p : ℕ) → j ≡ judged.Barred n p → Err (fault n p) ≡ hidden_by (definition_at s at)
  judged_barred n p q = go (definition_at s at) (sym q ∙ right)
    where
      go : (v : Definition) → judged.Barred n p ≡ judged_of v → Err (fault n p) ≡ hidden_by v
      go (barred k l) e = cc
      go (bad k) e = let c : ◌≡◌ {A = ℕ} 0 1 = cc in absurd (omega arith)
      go (good m k) e = let c : ◌≡◌ {A = ℕ} 0 1 = cc in absurd (omega arith)

  pub judged_bad : (i : ℕ) → j ≡ judged.Bad i → Ok i ≡ hidden_by (definition_at s at)
  judged_bad i q = go (definition_at s at) (sym q ∙ right)
    where
      go : (v : Definition) → judged.Bad i ≡ judged_of v → Ok i ≡ hidden_by v
      go (barred k l) e = let c : ◌≡◌ {A = ℕ} 0 1 = cc in absurd (omega arith)
      go (bad k) e = cc
      go (good m k) e = let c : ◌≡◌ {A = ℕ} 0 1 = cc in absurd (omega arith)

  pub judged_good : (i : ℕ) → j ≡ judged.Good i → Ok i ≡ hidden_by (definition_at s at)
  judged_good i q = go (definition_at s at) (sym q ∙ right)
    where
      go : (v : Definition) → judged.Good i ≡ judged_of v → Ok i ≡ hidden_by v
      go (barred k l) e = let c : ◌≡◌ {A = ℕ} 0 1 = cc in absurd (omega arith)
      go (bad k) e = let c : ◌≡◌ {A = ℕ} 0 1 = cc in absurd (omega arith)
      go (good m k) e = cc

  pub never_short : j ≡ judged.Short → ⊥
  never_short q = go (definition_at s at) (sym q ∙ right)
    where
      go : (v : Definition) → judged.Short ≡ judged_of v → ⊥
      go (barred k l) f = let c : ◌≡◌ {A = ℕ} 0 1 = cc in omega arith
      go (bad k) f = let c : ◌≡◌ {A = ℕ} 0 1 = cc in omega arith
      go (good m k) f = let c : ◌≡◌ {A = ℕ} 0 1 = cc in omega arith
