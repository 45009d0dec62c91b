-- The laws of moving the starts of a stretch of records.
-- Assumes nothing.
use mathlib.Core.Path.{◌≡◌, refl, ap, ◌∙◌}
use mathlib.Core.List.{List, [], ◌∷◌, ◌++◌}
use Prim.Native.Nat.{ℕ, zero, suc, ◌+◌, ◌-◌, ◌≤◌, ◌<◌}
use native.Mathlib.Nat.{le_of_suc-le-suc, not-suc-le-zero}
use native.Mathlib.Numerals.{add-one}
use native.Mathlib.Omega.{arith}
use lib.ListN.{length, take, drop, get_or, set, length-append, length-take, length-drop, take-append-drop, get_or-append}
use lib.Seq.{drop-cons, drop-set-lt, take-suc-set, append_snoc, take_at, drop_at, get_or-take, get_or-drop, get_or-append-add, length-take-le}
use Rattle.packed.specs.Records.{blank_record, record_of, RecordIs, moved_by, moved_in, moved_from}
use Rattle.packed.specs.declared.Record.{Record}

-- an element within a list, whatever stands for those past its end
pub any_default : {A : Type 0} (l : List A) (i : ℕ) (d e : A) → i < length l → get_or l i d ≡ get_or l i e
any_default [] i d e h = absurd (not-suc-le-zero h)
any_default (a ∷ l) zero d e h = refl
any_default (a ∷ l) (suc i) d e h = any_default l i d e (le_of_suc-le-suc h)

-- a record by its four numbers, each of 32 bits
pub record_by : (v : List ℕ) (a b c d : ℕ) → length v ≡ 4 → (a ≡ get_or v 0 0) × (a < 4294967296) → (b ≡ get_or v 1 0) × (b < 4294967296) → (c ≡ get_or v 2 0) × (c < 4294967296) → (d ≡ get_or v 3 0) × (d < 4294967296)
    → RecordIs v (record { start = a; name = b; text = c; size = d })
record_by v a b c d l p q r s = record {
  four = l;
  value = cc (p.0, q.0, r.0, s.0);
  small = record { start_small = p.1; name_small = q.1; text_small = r.1; size_small = s.1 };
}

pub record_as : {v w : List ℕ} {r : Record} → v ≡ w → RecordIs v r → RecordIs w r
record_as e h = record {
  four = rw (← e) h.four;
  value = h.value ∙ ap record_of e;
  small = h.small;
}

pub record_blank : {v : List ℕ} → blank_record ≡ v → RecordIs v (record { start = 0; name = 0; text = 0; size = 0 })
record_blank e = record {
  four = rw (← e);
  value = ap record_of e;
  small = record { start_small = omega arith; name_small = omega arith; text_small = omega arith; size_small = omega arith };
}

module _ (more less : ℕ) where
  -- ---- the first n of a list

  pub in_none : (n : ℕ) → moved_in more less n [] ≡ []
  unfolding moved_in
  in_none zero = refl
  in_none (suc n) = refl

  pub in_long : (n : ℕ) (vs : List (List ℕ)) → length (moved_in more less n vs) ≡ length vs
  unfolding moved_in
  in_long zero vs = refl
  in_long (suc n) [] = refl
  in_long (suc n) (v ∷ vs) = ap suc (in_long n vs)

  pub in_inside : (n : ℕ) (vs : List (List ℕ)) (j : ℕ) (d : List ℕ) → j < n → j < length vs → get_or (moved_in more less n vs) j d ≡ moved_by more less (get_or vs j d)
  unfolding moved_in
  in_inside zero vs j d h k = absurd (not-suc-le-zero h)
  in_inside (suc n) [] j d h k = absurd (not-suc-le-zero k)
  in_inside (suc n) (v ∷ vs) zero d h k = refl
  in_inside (suc n) (v ∷ vs) (suc j) d h k = in_inside n vs j d (le_of_suc-le-suc h) (le_of_suc-le-suc k)

  pub in_past : (n : ℕ) (vs : List (List ℕ)) (j : ℕ) (d : List ℕ) → n ≤ j → get_or (moved_in more less n vs) j d ≡ get_or vs j d
  unfolding moved_in
  in_past zero vs j d h = refl
  in_past (suc n) [] j d h = refl
  in_past (suc n) (v ∷ vs) zero d h = absurd (not-suc-le-zero h)
  in_past (suc n) (v ∷ vs) (suc j) d h = in_past n vs j d (le_of_suc-le-suc h)

  pub in_append : (n : ℕ) (us vs : List (List ℕ)) → moved_in more less n (us ++ vs) ≡ moved_in more less n us ++ moved_in more less (n - length us) vs
  unfolding moved_in
  in_append zero us vs = let e : 0 - length us ≡ 0 = omega arith in rw e
  in_append (suc n) [] vs = let e : suc n - 0 ≡ suc n = omega arith in rw e
  in_append (suc n) (u ∷ us) vs = let e : suc n - suc (length us) ≡ n - length us = omega arith in rw e (ap (λ (l : List (List ℕ)). moved_by more less u ∷ l) (in_append n us vs))

  -- ---- a stretch

  -- behind a list as long as the stretch's start
  pub from_at : (us vs : List (List ℕ)) (i e : ℕ) → length us ≡ i → moved_from more less i e (us ++ vs) ≡ us ++ moved_in more less (e - i) vs
  unfolding moved_from
  from_at us vs i e h = rw (take_at us vs i h, drop_at us vs i h)

  pub from_out : (i e : ℕ) (vs : List (List ℕ)) → e ≤ i → moved_from more less i e vs ≡ vs
  unfolding moved_from moved_in
  from_out i e vs h = let f : e - i ≡ 0 = omega arith in rw f (take-append-drop i vs)

  -- a turn of the loop that moves them
  pub from_next : (i e : ℕ) (vs : List (List ℕ)) (w : List ℕ) → i < e → e ≤ length vs → w ≡ moved_by more less (get_or vs i [])
      → moved_from more less (i + 1) e (set vs i w) ≡ moved_from more less i e vs
  unfolding moved_from moved_in
  from_next i e vs w h k q =
      let m : i < length vs = omega arith in
      let f : e - i ≡ suc (e - suc i) = omega arith in
      let t : List (List ℕ) = moved_in more less (e - suc i) (drop (suc i) vs) in
      rw (add-one, take-suc-set vs i w m, drop-set-lt (suc i) vs i w (omega arith))
      (append_snoc (take i vs) w t
      ∙ rw (f, drop-cons vs i [] m) (ap (λ (u : List ℕ). take i vs ++ (u ∷ t)) q))

  pub from_long : (i e : ℕ) (vs : List (List ℕ)) → length (moved_from more less i e vs) ≡ length vs
  unfolding moved_from
  from_long i e vs = simp (length-append, in_long, length-take, length-drop) (omega arith)

  pub from_before : (i e : ℕ) (vs : List (List ℕ)) (j : ℕ) (d : List ℕ) → j < i → i ≤ length vs → get_or (moved_from more less i e vs) j d ≡ get_or vs j d
  unfolding moved_from
  from_before i e vs j d h k =
      let n : length (take i vs) ≡ i = length-take-le i vs k in
      get_or-append (take i vs) (moved_in more less (e - i) (drop i vs)) d j (omega arith) ∙ get_or-take i vs j d h

  -- an index from the stretch's start on
  from_on : (i e : ℕ) (vs : List (List ℕ)) (j : ℕ) (d : List ℕ) → i ≤ j → i ≤ length vs → get_or (moved_from more less i e vs) j d ≡ get_or (moved_in more less (e - i) (drop i vs)) (j - i) d
  unfolding moved_from
  from_on i e vs j d h k =
      let n : length (take i vs) ≡ i = length-take-le i vs k in
      let f : j ≡ length (take i vs) + (j - i) = omega arith in
      ap (λ (m : ℕ). get_or (take i vs ++ moved_in more less (e - i) (drop i vs)) m d) f
      ∙ get_or-append-add (take i vs) (moved_in more less (e - i) (drop i vs)) (j - i) d

  pub from_inside : (i e : ℕ) (vs : List (List ℕ)) (j : ℕ) (d : List ℕ) → i ≤ j → j < e → j < length vs → get_or (moved_from more less i e vs) j d ≡ moved_by more less (get_or vs j d)
  from_inside i e vs j d h k l =
      let n : length (drop i vs) ≡ length vs - i = length-drop i vs in
      let f : i + (j - i) ≡ j = omega arith in
      from_on i e vs j d h (omega arith)
      ∙ in_inside (e - i) (drop i vs) (j - i) d (omega arith) (omega arith)
      ∙ ap (moved_by more less) (get_or-drop i vs (j - i) d ∙ ap (λ (m : ℕ). get_or vs m d) f)

  pub from_past : (i e : ℕ) (vs : List (List ℕ)) (j : ℕ) (d : List ℕ) → i ≤ j → e ≤ j → i ≤ length vs → get_or (moved_from more less i e vs) j d ≡ get_or vs j d
  from_past i e vs j d h k l =
      let f : i + (j - i) ≡ j = omega arith in
      from_on i e vs j d h l
      ∙ in_past (e - i) (drop i vs) (j - i) d (omega arith)
      ∙ get_or-drop i vs (j - i) d
      ∙ ap (λ (m : ℕ). get_or vs m d) f
