-- Bytes added to a buffer in one step or in several, and a loop that adds them.
-- Assumes nothing.
use Prim.Native.Nat.{ℕ, suc, ◌+◌, ◌<◌, ◌≤◌}
use mathlib.Core.Bool.{Bool, true, false, cond, ◌&&◌}
use mathlib.Core.List.{List, [], ◌∷◌, ◌++◌, append-nil, append_assoc}
use mathlib.Core.Path.{◌≡◌, refl, ap, sym, ◌∙◌, subst}
use native.Mathlib.Nat.{le_refl}
use native.Mathlib.Numerals.{add-one}
use native.Mathlib.Omega.{arith}
use lib.Dec.{eqb}
use lib.ListN.{length, get_or, drop, set, length-append, length-set}
use lib.Seq.{take-suc-set, drop-cons}
use borrow.Author.Tests.{eq-eqb, ne_eqb, eqb-true, eqb-false}
use Rattle.std.specs.Prelude.{Option, Some, None}
use Rattle.lex.specs.Classes.{is_space}
use Rattle.lex.proofs.Tests.{by_test, and_left, and_right}
use Rattle.storing.specs.Stored.{trim_left}
use Rattle.storing.specs.Writing.{led, Added, AddedBy}

abbrev none : List ℕ → Bool
none [] = true
none (x ∷ xs) = false

-- where all of xs is white space, ys is trimmed too
trim_then : (xs ys : List ℕ) → trim_left (xs ++ ys) ≡ trim_left xs ++ led (none (trim_left xs)) ys
unfolding trim_left
trim_then [] ys = refl
trim_then (x ∷ xs) ys = go (is_space x) (trim_then xs ys)
  where
    go : (b : Bool) → trim_left (xs ++ ys) ≡ trim_left xs ++ led (none (trim_left xs)) ys
        → cond b (trim_left (xs ++ ys)) (x ∷ (xs ++ ys)) ≡ cond b (trim_left xs) (x ∷ xs) ++ led (none (cond b (trim_left xs) (x ∷ xs))) ys
    go true ih = ih
    go false ih = refl

trim_length : (xs : List ℕ) → length (trim_left xs) ≤ length xs
unfolding trim_left
trim_length [] = le_refl 0
trim_length (x ∷ xs) =
    by_test (λ (w : List ℕ). length w ≤ suc (length xs)) (is_space x) (λ e. omega (arith, trim_length xs)) (λ e. le_refl _)

led_length : (b : Bool) (xs : List ℕ) → length (led b xs) ≤ length xs
led_length true xs = trim_length xs
led_length false xs = le_refl _

none_count : (xs : List ℕ) (from m : ℕ) → m ≡ from + length xs → eqb m from ≡ none xs
none_count [] from m e = eq-eqb m from (omega arith)
none_count (x ∷ xs) from m e = ne_eqb m from (λ q. omega arith)

module _ (from n m : ℕ) (xs ys : List ℕ) (h : from ≤ n) (e : m ≡ n + length (led (eqb n from) xs)) where
  led_then : led (eqb n from) (xs ++ ys) ≡ led (eqb n from) xs ++ led (eqb m from) ys
  led_then = go (eqb n from) refl
    where
      go : (b : Bool) → eqb n from ≡ b → led (eqb n from) (xs ++ ys) ≡ led (eqb n from) xs ++ led (eqb m from) ys
      go true q =
          let z : n ≡ from = eqb-true n from q in
          let g : m ≡ from + length (trim_left xs) = rw q at e ∙ ap (λ k. k + length (trim_left xs)) z in
          rw (q, none_count (trim_left xs) from m g) (trim_then xs ys)
      go false q =
          let z : eqb m from ≡ false = ne_eqb m from (λ g. eqb-false n from q (omega arith)) in
          rw (q, z)

-- nothing added, and one byte
module _ (o : List ℕ) (from n : ℕ) (l : n ≤ length o) where
  left_out : (ys : List ℕ) → led (eqb n from) ys ≡ [] → Added o o from n n ys
  left_out ys e =
      record {
        same_length = refl;
        count = rw e (omega arith);
        fits = l;
        bytes = rw (e, append-nil);
      }

  pub added_none : Added o o from n n []
  unfolding trim_left
  added_none = left_out [] (by_test (λ (w : List ℕ). w ≡ []) (eqb n from) (λ e. refl) (λ e. refl))

  -- white space where nothing stands behind `from` yet
  pub added_space : (b : ℕ) (f : Bool) → f ≡ is_space b → (eqb n from && f) ≡ true → Added o o from n n (b ∷ [])
  unfolding trim_left
  added_space b f q e = left_out (b ∷ []) (rw (and_left (eqb n from) f e, ← q, and_right (eqb n from) f e))

led_one : (first : Bool) (b : ℕ) (f : Bool) → f ≡ is_space b → (first && f) ≡ false → led first (b ∷ []) ≡ b ∷ []
unfolding trim_left
led_one true b f q e = rw (← q, e)
led_one false b f q e = refl

pub added_one : (o : List ℕ) (from n b : ℕ) (f : Bool) → f ≡ is_space b → (eqb n from && f) ≡ false → n < length o
    → Added o (set o n b) from n (n + 1) (b ∷ [])
added_one o from n b f q e l =
    let z = led_one (eqb n from) b f q e in
    record {
      same_length = length-set o n b;
      count = rw z;
      fits = omega arith;
      bytes = rw (z, add-one, take-suc-set o n b l);
    }

-- bytes added in two steps
module _ {o o' : List ℕ} {from n m : ℕ} {xs : List ℕ} (a : Added o o' from n m xs) where
  -- what the next step requires
  pub added_past : from ≤ n → (from ≤ m) × (m ≤ length o')
  added_past h = (omega (arith, a.count), omega (arith, a.fits, a.same_length))

  module _ (h : from ≤ n) (ys : List ℕ) (o'' : List ℕ) where
    pub added_then : {k : ℕ} → Added o' o'' from m k ys → Added o o'' from n k (xs ++ ys)
    added_then b =
        let q = led_then from n m xs ys h a.count in
        record {
          same_length = b.same_length ∙ a.same_length;
          count = rw (q, length-append) (omega (arith, a.count, b.count));
          fits = omega (arith, b.fits, a.same_length);
          bytes = b.bytes ∙ rw (q, a.bytes, append_assoc);
        }

    -- no room for ys behind xs
    short_then : length o' < m + length ys → length o < n + length (xs ++ ys)
    short_then b = rw length-append (omega (arith, a.count, a.same_length, led_length (eqb n from) xs))

    pub by_then : (r : Option ℕ) → AddedBy r o' o'' from m ys → AddedBy r o o'' from n (xs ++ ys)
    by_then (Some k) b = added_then b
    by_then None b = short_then b

-- What a loop has added so far: past it comes `rest`, and all of it is `whole`.
pub record Adding (o o' : List ℕ) (from n k : ℕ) (rest whole : List ℕ) : Type 0 where
  pub past : from ≤ n
  pub done : List ℕ
  pub added : Added o o' from n k done
  pub splits : done ++ rest ≡ whole

pub adding_first : {o : List ℕ} {from n : ℕ} {whole : List ℕ} → from ≤ n → n ≤ length o → Adding o o from n n whole whole
adding_first {o} {from} {n} h l = record { past = h; done = []; added = added_none o from n l; splits = refl }

module _ {o o' : List ℕ} {from n k : ℕ} {rest whole : List ℕ} (a : Adding o o' from n k rest whole) where
  pub adding_past : (from ≤ k) × (k ≤ length o')
  adding_past = added_past a.added a.past

  pub adding_length : length o' ≡ length o
  adding_length = a.added.same_length

  -- the rest is added in one step
  pub adding_last : (o'' : List ℕ) (r : Option ℕ) → AddedBy r o' o'' from k rest → AddedBy r o o'' from n whole
  adding_last o'' r b = subst (λ (w : List ℕ). AddedBy r o o'' from n w) a.splits (by_then a.added a.past rest o'' r b)

  pub adding_end : rest ≡ [] → Added o o' from n k whole
  adding_end e = adding_last o' (Some k) (rw e (added_none o' from k adding_past.1))

  -- a first part of the rest is added, or there is no room for it
  module _ (ys left : List ℕ) (e : rest ≡ ys ++ left) where
    pub adding_next : {o'' : List ℕ} {m : ℕ} → Added o' o'' from k m ys → Adding o o'' from n m left whole
    adding_next {o''} d =
        record {
          past = a.past;
          done = a.done ++ ys;
          added = added_then a.added a.past ys o'' d;
          splits = append_assoc a.done ys left ∙ (ap (λ (w : List ℕ). a.done ++ w) (sym e) ∙ a.splits);
        }

    pub adding_short : length o' < k + length ys → length o < n + length whole
    adding_short d = adding_last o' None (rw (e, length-append) (omega arith))

-- the next byte of what is added byte by byte
pub drop_more : (xs : List ℕ) (i : ℕ) → i < length xs → drop i xs ≡ get_or xs i 0 ∷ drop (i + 1) xs
drop_more xs i h = rw (add-one i, drop-cons xs i 0 h)
