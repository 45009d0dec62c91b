-- A store without macros. Assumes nothing.
use mathlib.Core.Path.{◌≡◌, refl, sym, ap, ◌∙◌}
use mathlib.Core.List.{List, [], append-nil}
use Prim.Native.Nat.{ℕ, ◌+◌, ◌-◌}
use native.Mathlib.Omega.{arith}
use lib.ListN.{length, take, drop, replicate, length-append, length-replicate, replicate-append-replicate}
use lib.Seq.{paste, take_all, drop_at, drop-length}
use Rattle.definition.specs.Definitions.{Macro}
use Rattle.packed.specs.Records.{blank_record}
use Rattle.store.specs.Stores.{encode}
use Rattle.store.specs.Buffers.{rows_from, padded, Holds}
use Rattle.store.proofs.Entries.{length_rows}

module _ {A : Type 0} (z : A) where
  -- the live front of a buffer cleared: what is behind it is blank already
  front_cleared : (l x l' : List A) (n : ℕ) → l ≡ padded z (length l) x → n ≡ length x → l' ≡ paste l 0 (replicate (n - 0) z) (n - 0) → l' ≡ replicate (length l) z
  front_cleared l x l' n e q p =
      let o : n - 0 ≡ n = omega arith in
      let m : length l ≡ length x + length (replicate (length l - length x) z) = ap length e ∙ length-append x (replicate (length l - length x) z) in
      let r : length (replicate (length l - length x) z) ≡ length l - length x = length-replicate (length l - length x) z in
      let s : n + (length l - length x) ≡ length l = omega arith in
      let d : drop n l ≡ replicate (length l - length x) z = ap (drop n) e ∙ drop_at x (replicate (length l - length x) z) n (sym q) in
      let t : take n (replicate n z) ≡ replicate n z = take_all n (replicate n z) (omega (arith, length-replicate n z)) in
      let u : 0 + n ≡ n = omega arith in
      p ∙ rw (o, u, t, d) (replicate-append-replicate n (length l - length x) z ∙ ap (λ (k : ℕ). replicate k z) s)

  all_cleared : (l l' : List A) → l' ≡ paste l 0 (replicate (length l - 0) z) (length l - 0) → l' ≡ replicate (length l) z
  all_cleared l l' p =
      let o : length l - 0 ≡ length l = omega arith in
      let u : 0 + length l ≡ length l = omega arith in
      let t : take (length l) (replicate (length l) z) ≡ replicate (length l) z = take_all (length l) (replicate (length l) z) (omega (arith, length-replicate (length l) z)) in
      p ∙ rw (o, u, t, drop-length l) (append-nil (replicate (length l) z))

  -- a buffer of blanks holds nothing
  blank_padded : (l : List A) (n : ℕ) → l ≡ replicate n z → l ≡ padded z (length l) []
  blank_padded l n e =
      let k : length l - 0 ≡ n = omega (arith, ap length e, length-replicate n z) in
      e ∙ ap (λ (j : ℕ). replicate j z) (sym k)

pub none_held : {b : List ℕ} {r : List (List ℕ)} (k j : ℕ) → b ≡ replicate k 0 → r ≡ replicate j blank_record → Holds [] b r 0
unfolding encode rows_from
none_held {b} {r} k j eb er = record { bytes = blank_padded 0 b k eb; rows = blank_padded blank_record r j er; count = refl }

-- all macros taken out
pub emptied : {ms : List Macro} {b b' : List ℕ} {r r' : List (List ℕ)} {n live : ℕ} → Holds ms b r n → live ≡ length (encode ms)
    → b' ≡ paste b 0 (replicate (live - 0) 0) (live - 0) → r' ≡ paste r 0 (replicate (n - 0) blank_record) (n - 0) → Holds [] b' r' 0
emptied {ms} {b} {b'} {r} {r'} {n} {live} h e eb er =
    none_held (length b) (length r) (front_cleared 0 b (encode ms) b' live h.bytes e eb)
    (front_cleared blank_record r (rows_from 0 ms) r' n h.rows (h.count ∙ sym (length_rows 0 ms)) er)

-- buffers of any content cleared
pub zeroed : (b : List ℕ) (r : List (List ℕ)) {b' : List ℕ} {r' : List (List ℕ)} → b' ≡ paste b 0 (replicate (length b - 0) 0) (length b - 0)
    → r' ≡ paste r 0 (replicate (length r - 0) blank_record) (length r - 0) → Holds [] b' r' 0
zeroed b r {b'} {r'} eb er = none_held (length b) (length r) (all_cleared 0 b b' eb) (all_cleared blank_record r r' er)
