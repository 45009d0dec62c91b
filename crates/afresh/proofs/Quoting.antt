-- A string, read to its end.
-- Assumes nothing.
use Prim.Native.Nat.{ℕ, suc, ◌<◌, ◌≤◌}
use mathlib.Core.Bool.{Bool, true, false, not, ◌&&◌, ◌||◌}
use mathlib.Core.List.{List, [], ◌∷◌}
use mathlib.Core.Path.{◌≡◌, refl, sym, ◌∙◌}
use native.Mathlib.Nat.{le_refl}
use native.Mathlib.Omega.{arith}
use lib.Dec.{eqb}
use lib.ListN.{drop}
use borrow.Author.Tests.{eqb-true}
use Rattle.text.specs.Bytes.{holds, part}
use Rattle.lex.specs.Classes.{is_legal}
use Rattle.lex.specs.Scans.{scan, string_from}
use Rattle.lex.specs.declared.Scan.{Scan}
use Rattle.lex.proofs.Tests.{by_test}
use Rattle.afresh.specs.Unfit.{is_open}
use Rattle.afresh.specs.States.{Within, Escape, Bad, is_string, in_string, next, reading, leaves, ended}
use Rattle.afresh.proofs.Sorts.{or_true}
use Rattle.afresh.proofs.Going.{Hold, marks_of, due_of, bare, start, verdict, goes, bad_stays}
use Rattle.afresh.proofs.Placing.{rest_at, part_from, part_one}

pub string_past : (esc ok : Bool) (i : ℕ) (xs : List ℕ) → i ≤ (string_from esc ok i xs).end
unfolding string_from
string_past true ok i [] = le_refl i
string_past false ok i [] = le_refl i
string_past true ok i (x ∷ xs) = let p = string_past false (ok && is_legal x) (suc i) xs in omega arith
string_past false ok i (x ∷ xs) =
    by_test (λ (r : Scan). i ≤ r.end) (eqb x 34) (λ e. omega arith)
    (λ e. by_test (λ (r : Scan). i ≤ r.end) (eqb x 10) (λ d. le_refl i)
    (λ d. let p = string_past (eqb x 92) (ok && is_legal x) (suc i) xs in omega arith))

-- past an illegal byte a string is barred
string_barred : (esc : Bool) (i : ℕ) (xs : List ℕ) → (string_from esc false i xs).bar ≡ 2
unfolding string_from
string_barred true i [] = refl
string_barred false i [] = refl
string_barred true i (x ∷ xs) = string_barred false (suc i) xs
string_barred false i (x ∷ xs) =
    by_test (λ (r : Scan). r.bar ≡ 2) (eqb x 34) (λ e. refl)
    (λ e. by_test (λ (r : Scan). r.bar ≡ 2) (eqb x 10) (λ d. refl) (λ d. string_barred (eqb x 92) (suc i) xs))

abbrev kind_of : Bool → ℕ
kind_of true = Escape
kind_of false = Within

module _ (h : Hold) (k : ℕ) (s : is_string (bare k h) ≡ true) (x : ℕ) where
  legal_next : is_legal x ≡ true → next (bare k h) x ≡ in_string (bare k h) x
  unfolding next
  legal_next l = rw (l, s)

  illegal_next : is_legal x ≡ false → next (bare k h) x ≡ bare Bad h
  unfolding next
  illegal_next l = rw l

module _ (w : List ℕ) (h : Hold) where
  -- a string of which the part from i on is scanned: barred, or with a newline, or what follows it is bad
  abbrev pub string_to : ℕ → Scan → Bool
  string_to i r = not (eqb r.bar 0) || (holds 10 (part w i r.end) || verdict (start h) (drop r.end w))

  unfinished : (esc : Bool) → verdict (bare (kind_of esc) h) [] ≡ true
  unfolding reading ended leaves
  unfinished true = rw (or_true (is_open (due_of h))) (or_true (marks_of h))
  unfinished false = rw (or_true (is_open (due_of h))) (or_true (marks_of h))

  module _ (i x : ℕ) (xs : List ℕ) (d : drop i w ≡ x ∷ xs) where
    -- a byte that is bad in a string, before the rest
    bad_here : (k : ℕ) (r : Scan) → next (bare k h) x ≡ bare Bad h → string_to i r ≡ true → verdict (bare k h) (x ∷ xs) ≡ string_to i r
    bad_here k r e f = goes (bare k h) (bare Bad h) x xs e ∙ (bad_stays h xs ∙ sym f)

    illegal_to : (esc : Bool) → string_to i (string_from esc false (suc i) xs) ≡ true
    illegal_to esc = rw (string_barred esc (suc i) xs)

    newline_to : (r : Scan) → eqb x 10 ≡ true → i < r.end → string_to i r ≡ true
    unfolding holds
    newline_to r e p = rw (part_from w i x xs d r.end p, e) (or_true (not (eqb r.bar 0)))

    -- one byte further
    on_to : (r : Scan) → eqb x 10 ≡ false → i < r.end → string_to i r ≡ string_to (suc i) r
    unfolding holds
    on_to r e p = rw (part_from w i x xs d r.end p, e)

    escape_to : (b c : Bool) → is_legal x ≡ b → eqb x 10 ≡ c
        → (b ≡ true → verdict (bare Within h) xs ≡ string_to (suc i) (string_from false b (suc i) xs))
        → verdict (bare Escape h) (x ∷ xs) ≡ string_to i (string_from false b (suc i) xs)
    unfolding in_string
    escape_to false c l e f = bad_here Escape (string_from false false (suc i) xs) (illegal_next h Escape refl x l) (illegal_to false)
    escape_to true true l e f =
        let p = string_past false true (suc i) xs in
        bad_here Escape (string_from false true (suc i) xs) (legal_next h Escape refl x l ∙ rw e) (newline_to (string_from false true (suc i) xs) e (omega arith))
    escape_to true false l e f =
        let p = string_past false true (suc i) xs in
        goes (bare Escape h) (bare Within h) x xs (legal_next h Escape refl x l ∙ rw e) ∙ (f refl ∙ sym (on_to (string_from false true (suc i) xs) e (omega arith)))

    -- neither the string's end nor a newline
    plain_to : (b c : Bool) → is_legal x ≡ b → eqb x 92 ≡ c → eqb x 34 ≡ false → eqb x 10 ≡ false
        → (b ≡ true → verdict (bare (kind_of c) h) xs ≡ string_to (suc i) (string_from c b (suc i) xs))
        → verdict (bare Within h) (x ∷ xs) ≡ string_to i (string_from c b (suc i) xs)
    unfolding in_string
    plain_to false c l e n m f = bad_here Within (string_from c false (suc i) xs) (illegal_next h Within refl x l) (illegal_to c)
    plain_to true true l e n m f =
        let p = string_past true true (suc i) xs in
        goes (bare Within h) (bare Escape h) x xs (legal_next h Within refl x l ∙ rw (m, e)) ∙ (f refl ∙ sym (on_to (string_from true true (suc i) xs) m (omega arith)))
    plain_to true false l e n m f =
        let p = string_past false true (suc i) xs in
        goes (bare Within h) (bare Within h) x xs (legal_next h Within refl x l ∙ rw (m, e, n)) ∙ (f refl ∙ sym (on_to (string_from false true (suc i) xs) m (omega arith)))

    -- the closing `"`
    close_to : eqb x 34 ≡ true → verdict (bare Within h) (x ∷ xs) ≡ string_to i (scan (suc i) true 0)
    unfolding in_string holds
    close_to e =
        let q : x ≡ 34 = eqb-true x 34 e in
        goes (bare Within h) (start h) x xs (rw q (legal_next h Within refl 34 refl))
        ∙ rw (part_one w i x xs d, q, rest_at w i x xs d)

  newline_bad : (x : ℕ) → x ≡ 10 → next (bare Within h) x ≡ bare Bad h
  unfolding in_string
  newline_bad x q = rw q (legal_next h Within refl 10 refl)

  pub string_reads : (esc : Bool) (i : ℕ) (xs : List ℕ) → drop i w ≡ xs → verdict (bare (kind_of esc) h) xs ≡ string_to i (string_from esc true i xs)
  unfolding string_from
  string_reads true i [] d = unfinished true
  string_reads false i [] d = unfinished false
  string_reads true i (x ∷ xs) d =
      escape_to i x xs d (is_legal x) (eqb x 10) refl refl
      (λ l. rw l (string_reads false (suc i) xs (rest_at w i x xs d)))
  string_reads false i (x ∷ xs) d =
      by_test (λ (r : Scan). verdict (bare Within h) (x ∷ xs) ≡ string_to i r) (eqb x 34) (λ e. close_to i x xs d e)
      (λ n. by_test (λ (r : Scan). verdict (bare Within h) (x ∷ xs) ≡ string_to i r) (eqb x 10)
      (λ e. bad_here i x xs d Within (scan i true 3) (newline_bad x (eqb-true x 10 e)) refl)
      (λ m. plain_to i x xs d (is_legal x) (eqb x 92) refl refl n m (λ l. rw l (string_reads (eqb x 92) (suc i) xs (rest_at w i x xs d)))))
