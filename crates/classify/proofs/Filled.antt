-- Buffers made by a repeat, however long, and what is judged with them as bytes for brackets.
-- Assumes nothing.
use mathlib.Core.Path.{◌≡◌, sym}
use mathlib.Core.Logic.{◌⊎◌, inl, inr, ⊎_elim}
use Prim.Native.Nat.{ℕ, ◌*◌, ◌<◌}
use native.Mathlib.Omega.{arith}
use lib.ListN.{length, replicate, length-replicate}
use Rattle.brackets.specs.Stacks.{Full, Settled, full, over}
use Rattle.definition.specs.declared.Judged.{Judged}

-- a repeat has as many elements as it says
pub filled : (n : ℕ) → n ≡ length {A = ℕ} (replicate n 0)
filled n = sym (length-replicate n 0)

never : (n k : ℕ) → k < 4 * n → k < 18446744073709551615 → Full (replicate n 0) k → ⊥
never n k h l (inl q) = omega (arith, length-replicate {A = ℕ} n 0)
never n k h l (inr q) = omega arith

-- bytes with room for more brackets than a text has bytes are enough
pub enough : {k : ℕ} {sh right r : Judged} (n : ℕ) → k < 4 * n → k < 18446744073709551615 → Settled (replicate n 0) k sh right r → r ≡ right
enough n h l (full e) = e
enough {k} n h l (over e q) = absurd (never n k h l q)

-- the tag of an answer that tells something is not that of `Short`
pub other_tag : (t : ℕ) → (t ≡ 0) ⊎ (t ≡ 1) ⊎ (t ≡ 2) → t ≡ 3 → ⊥
other_tag t h e = ⊎_elim (λ a. omega arith) (λ q. ⊎_elim (λ b. omega arith) (λ d. omega arith) q) h
