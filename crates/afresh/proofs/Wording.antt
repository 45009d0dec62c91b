-- A run of bytes, and a name that is one, read to the end.
-- Assumes nothing.
use Prim.Native.Nat.{ℕ, suc, ◌-◌, ◌<◌, ◌≤◌}
use mathlib.Core.Bool.{Bool, true, false, ◌||◌}
use mathlib.Core.List.{List, [], ◌∷◌, ◌++◌}
use mathlib.Core.Path.{◌≡◌, refl, ◌∙◌}
use native.Mathlib.Nat.{le_refl}
use native.Mathlib.Omega.{arith}
use lib.Dec.{leb, ltb}
use lib.ListN.{length, drop}
use borrow.Author.Tests.{le-ltb, lt-ltb, leb-true, leb-false}
use Rattle.text.specs.Bytes.{holds, part}
use Rattle.text.proofs.Matching.{part_none}
use Rattle.lex.specs.Classes.{is_start, is_run, is_legal}
use Rattle.lex.specs.Scans.{run_from}
use Rattle.lex.proofs.Tests.{by_test}
use Rattle.afresh.specs.Unfit.{is_open}
use Rattle.afresh.specs.States.{Start, Word, Run, Based, Bad, is_string, fresh, in_word, in_run, outside, next, reading, leaves, ended}
use Rattle.afresh.proofs.Sorts.{apart, run_legal, start_white}
use Rattle.afresh.proofs.Going.{Hold, marks_of, due_of, standing, bare, start, verdict, is_barred, spoils, goes, bad_stays, passed, alike, fresh_alike, clear, closes}
use Rattle.afresh.proofs.Placing.{rest_at, part_from, Reads, reads_name, reads_long, reads_more, longer_by}

pub run_past : (more i : ℕ) (xs : List ℕ) → i ≤ run_from more i xs
unfolding run_from
run_past more i [] = le_refl i
run_past more i (x ∷ xs) =
    by_test (λ (e : ℕ). i ≤ e) (is_run more x) (λ e. let p = run_past more (suc i) xs in omega arith) (λ e. le_refl i)

-- a run holds no grave accent
pub run_clean : (w : List ℕ) (more : ℕ) → is_run more 96 ≡ false → (i : ℕ) (xs : List ℕ) → drop i w ≡ xs → holds 96 (part w i (run_from more i xs)) ≡ false
unfolding run_from holds
run_clean w more q i [] d = rw (part_none w i i (le_refl i))
run_clean w more q i (x ∷ xs) d =
    by_test (λ (e : ℕ). holds 96 (part w i e) ≡ false) (is_run more x)
    (λ e. let p = run_past more (suc i) xs in
    rw (part_from w i x xs d (run_from more (suc i) xs) (omega arith), apart (is_run more) x 96 e q) (run_clean w more q (suc i) xs (rest_at w i x xs d)))
    (λ e. rw (part_none w i i (le_refl i)))

-- a state that stays while the run lasts, and then begins a token
module _ (w : List ℕ) (h : Hold) (k more : ℕ) (s : is_string (bare k h) ≡ false)
    (on : (x : ℕ) → is_run more x ≡ true → outside (bare k h) x ≡ bare k h)
    (off : (x : ℕ) → is_run more x ≡ false → outside (bare k h) x ≡ outside (start h) x)
    (none : verdict (bare k h) [] ≡ verdict (start h) []) (q : is_run more 96 ≡ false) (l : is_legal more ≡ true) where
  reads_run : (i : ℕ) (xs : List ℕ) → drop i w ≡ xs → verdict (bare k h) xs ≡ verdict (start h) (drop (run_from more i xs) w)
  unfolding run_from
  reads_run i [] d = rw d none
  reads_run i (x ∷ xs) d =
      by_test (λ (e : ℕ). verdict (bare k h) (x ∷ xs) ≡ verdict (start h) (drop e w)) (is_run more x)
      (λ e. goes (bare k h) (bare k h) x xs (passed h k false [] s x (clear h x (run_legal more x l e) (apart (is_run more) x 96 e q)) ∙ on x e)
      ∙ reads_run (suc i) xs (rest_at w i x xs d))
      (λ e. rw d (alike h k 0 false false [] [] s refl x xs (off x e)))

module _ (w : List ℕ) (h : Hold) where
  -- the run of a number or of a `$`
  pub run_reads : (i : ℕ) (xs : List ℕ) → drop i w ≡ xs → verdict (bare Run h) xs ≡ verdict (start h) (drop (run_from 36 i xs) w)
  unfolding outside in_run reading ended leaves
  run_reads = reads_run w h Run 36 refl (λ x e. rw e) (λ x e. rw e (fresh_alike h Run false [] x)) refl refl refl

  -- the digits of a based number
  pub based_reads : (i : ℕ) (xs : List ℕ) → drop i w ≡ xs → verdict (bare Based h) xs ≡ verdict (start h) (drop (run_from 63 i xs) w)
  unfolding outside in_run reading ended leaves
  based_reads = reads_run w h Based 63 refl (λ x e. rw e) (λ x e. rw e (fresh_alike h Based false [] x)) refl refl refl

  -- a name from `from` to before e: too long, or bad behind a grave accent, or what follows is
  abbrev pub named_to : Bool → ℕ → ℕ → Bool
  named_to g from e = ltb 1024 (e - from) || (spoils g (part w from e) || verdict (start h) (drop e w))

-- a name's end at the text's end
pub at_end : (h : Hold) (c : Bool) → (marks_of h || (is_open (due_of h) || c)) ≡ (c || verdict (start h) [])
unfolding reading ended leaves
at_end h c = go (marks_of h) (is_open (due_of h)) c
  where
    go : (a b c : Bool) → (a || (b || c)) ≡ (c || (a || (b || false)))
    go true b true = refl
    go true b false = refl
    go false true true = refl
    go false true false = refl
    go false false true = refl
    go false false false = refl

module _ (h : Hold) where
  -- a letter is nowhere bad at once
  pub letter_next : (k : ℕ) (g : Bool) (n : List ℕ) → is_string (standing k h g n) ≡ false → (x : ℕ) → is_start x ≡ true
      → next (standing k h g n) x ≡ outside (standing k h g n) x
  letter_next k g n s x e =
      let l : is_legal x ≡ true = run_legal 36 x refl (rw e) in
      passed h k g n s x (clear h x l (apart is_start x 96 e refl))

  pub start_next : (x : ℕ) → is_start x ≡ true → next (start h) x ≡ standing Word h false (x ∷ [])
  unfolding outside fresh
  start_next x e = letter_next Start false [] refl x e ∙ rw (start_white x e, e)

module _ {w : List ℕ} {from i : ℕ} {n : List ℕ} where
  -- a name that may end at i is not too long
  fits : {xs : List ℕ} → Reads w from i n xs → length n ≤ 1024 → ltb 1024 (i - from) ≡ false
  fits r l = rw (reads_long r) (le-ltb 1024 (length n) l)

  -- a name of 1,024 bytes and one more is
  pub over : {xs : List ℕ} → Reads w from i n xs → 1024 ≤ length n → (e : ℕ) → suc i ≤ e → ltb 1024 (e - from) ≡ true
  over r l e p = lt-ltb 1024 (e - from) (omega (arith, r.long))

module _ (w : List ℕ) (h : Hold) (g : Bool) (from : ℕ) where
  pub word_reads : (i : ℕ) (n xs : List ℕ) → Reads w from i n xs → length n ≤ 1024 → verdict (standing Word h g n) xs ≡ named_to w h g from (run_from 36 i xs)
  unfolding run_from outside in_word reading ended leaves
  word_reads i n [] r l = rw (fits r l, reads_name r, r.here) (at_end h (spoils g n))
  word_reads i n (x ∷ xs) r l =
      by_test (λ (e : ℕ). verdict (standing Word h g n) (x ∷ xs) ≡ named_to w h g from e) (is_run 36 x)
      (λ e. let p : is_barred h x ≡ false = clear h x (run_legal 36 x refl e) (apart (is_run 36) x 96 e refl) in
      more (leb 1024 (length n)) refl e p (word_reads (suc i) (n ++ (x ∷ [])) xs (reads_more r)))
      (λ e. rw (fits r l, reads_name r, r.here) (closes h Word Word g n n refl x xs (rw e)))
    where
      more : (b : Bool) → leb 1024 (length n) ≡ b → is_run 36 x ≡ true → is_barred h x ≡ false
          → (length (n ++ (x ∷ [])) ≤ 1024 → verdict (standing Word h g (n ++ (x ∷ []))) xs ≡ named_to w h g from (run_from 36 (suc i) xs))
          → verdict (standing Word h g n) (x ∷ xs) ≡ named_to w h g from (run_from 36 (suc i) xs)
      more true q e p f =
          goes (standing Word h g n) (bare Bad h) x xs (passed h Word g n refl x p ∙ rw (e, q)) ∙ (bad_stays h xs
          ∙ rw (over r (leb-true 1024 (length n) q) (run_from 36 (suc i) xs) (run_past 36 (suc i) xs)))
      more false q e p f =
          let s : length n < 1024 = leb-false 1024 (length n) q in
          goes (standing Word h g n) (standing Word h g (n ++ (x ∷ []))) x xs (passed h Word g n refl x p ∙ rw (e, q)) ∙ f (omega (arith, longer_by n x))
