-- The table ascends in byte order.
-- Assumes nothing.
use mathlib.Core.Path.{◌≡◌, refl}
use mathlib.Core.Bool.{Bool, true, false, ◌&&◌, and-eq-true_iff}
use mathlib.Core.List.{List, [], ◌∷◌}
use Prim.Native.Nat.{ℕ, zero, suc, ◌<◌}
use native.Mathlib.Nat.{not-suc-le-zero, le_of_suc-le-suc}
use lib.ListN.{length}
use Rattle.text.specs.Bytes.{bytes}
use Rattle.text.specs.Order.{order_of}
use Rattle.std.specs.declared.cmp.Ordering.{Ordering}
use Rattle.std.specs.declared.cmp.Ordering.TheVariants.{Less, Equal, Greater}
use Rattle.text.proofs.Comparing.{order_trans}
use Rattle.keywords.specs.Keywords.{Keyword, word, keywords, word_at}
use Rattle.keywords.proofs.Places.{word_of}

abbrev pub is_less : Ordering → Bool
is_less Less = true
is_less Equal = false
is_less Greater = false

-- w stands below the first word, if there is one
abbrev pub below : List ℕ → List Keyword → Bool
below w [] = true
below w (k ∷ ks) = is_less (order_of w (word k))

-- each word stands below the next
unfoldable pub ascending : List Keyword → Bool
ascending [] = true
ascending (k ∷ ks) = below (word k) ks && ascending ks

pub table_ascends : ascending keywords ≡ true
unfolding ascending keywords bytes order_of
table_ascends = refl

less_true : (o : Ordering) → is_less o ≡ true → o ≡ Less
less_true Less e = refl
less_true Equal e = cc
less_true Greater e = cc

-- what stands below the first stands below each
below_each : (w : List ℕ) (ks : List Keyword) (k : ℕ) → below w ks ≡ true → ascending ks ≡ true → k < length ks → order_of w (word_of ks k) ≡ Less
unfolding ascending
below_each w [] k b a h = absurd (not-suc-le-zero h)
below_each w (x ∷ ks) zero b a h = less_true (order_of w (word x)) b
below_each w (x ∷ ks) (suc k) b a h =
    let s = (and-eq-true_iff (below (word x) ks) (ascending ks)).0 a in
    order_trans w (word x) (word_of ks k) (less_true (order_of w (word x)) b) (below_each (word x) ks k s.0 s.1 (le_of_suc-le-suc h))

-- so does an earlier word below a later one
pub earlier_less : (ks : List Keyword) (i k : ℕ) → ascending ks ≡ true → i < k → k < length ks → order_of (word_of ks i) (word_of ks k) ≡ Less
unfolding ascending
earlier_less [] i k a l h = absurd (not-suc-le-zero h)
earlier_less (x ∷ ks) i zero a l h = absurd (not-suc-le-zero l)
earlier_less (x ∷ ks) zero (suc k) a l h =
    let s = (and-eq-true_iff (below (word x) ks) (ascending ks)).0 a in
    below_each (word x) ks k s.0 s.1 (le_of_suc-le-suc h)
earlier_less (x ∷ ks) (suc i) (suc k) a l h =
    let s = (and-eq-true_iff (below (word x) ks) (ascending ks)).0 a in
    earlier_less ks i k s.1 (le_of_suc-le-suc l) (le_of_suc-le-suc h)

-- an earlier word of the table stands below a later one
pub table_less : (i k : ℕ) → i < k → k < 221 → order_of (word_at i) (word_at k) ≡ Less
unfolding keywords word_at
table_less i k l h = earlier_less keywords i k table_ascends l h
