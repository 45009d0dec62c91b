-- A time unit's power of ten is small.
-- Assumes nothing.
use Prim.Native.Nat.{ℕ, ◌≤◌}
use mathlib.Core.List.{List}
use mathlib.Core.Path.{◌≡◌}
use native.Mathlib.Omega.{arith}
use Rattle.text.specs.Bytes.{bytes, same}
use Rattle.names.specs.Names.{number_in, unit_of}
use Rattle.lex.proofs.Tests.{by_test}

unit_below : (w : List ℕ) → unit_of w ≤ 99
unfolding unit_of number_in
unit_below w =
    by_test (λ n. n ≤ 99) (same w (bytes "s")) (λ e. omega arith)
    (λ e. by_test (λ n. n ≤ 99) (same w (bytes "ms")) (λ e. omega arith)
    (λ e. by_test (λ n. n ≤ 99) (same w (bytes "us")) (λ e. omega arith)
    (λ e. by_test (λ n. n ≤ 99) (same w (bytes "ns")) (λ e. omega arith)
    (λ e. by_test (λ n. n ≤ 99) (same w (bytes "ps")) (λ e. omega arith)
    (λ e. by_test (λ n. n ≤ 99) (same w (bytes "fs")) (λ e. omega arith) (λ e. omega arith))))))

pub unit_small : (w : List ℕ) (u : ℕ) → u ≡ unit_of w → u ≤ 99
unit_small w u e = rw e (unit_below w)
