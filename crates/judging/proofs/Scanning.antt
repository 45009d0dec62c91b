-- The scans of a definition's tokens: what is stored of what they pass, and where an escaped name stops.
-- Assumes nothing.
use Prim.Native.Nat.{ℕ, zero, suc, ◌+◌, ◌-◌, ◌≤◌}
use mathlib.Core.Bool.{Bool, true, false, cond, not, ◌&&◌, ◌||◌}
use mathlib.Core.List.{List, [], ◌∷◌, ◌++◌}
use mathlib.Core.Path.{◌≡◌, refl, ap, ◌∙◌}
use native.Mathlib.Nat.{le_refl}
use native.Mathlib.Numerals.{add-one}
use native.Mathlib.Omega.{arith}
use lib.Dec.{eqb, ltb}
use lib.ListN.{length, get_or, take, drop, length-take, length-drop}
use lib.Seq.{take-nil}
use borrow.Author.Tests.{eqb-true, eq-eqb, ltb-false, not-false}
use Rattle.text.specs.Bytes.{part}
use Rattle.text.proofs.Matching.{part_none}
use Rattle.lex.specs.Classes.{is_white, is_space, is_run, is_span, is_legal}
use Rattle.lex.specs.Scans.{scan, run_from, run_end, span_from, span_end, string_from}
use Rattle.lex.specs.declared.Scan.{Scan}
use Rattle.lex.proofs.Tests.{by_test, true_false, and_left, and_right}
use Rattle.storing.specs.Stored.{joined_from}
use Rattle.afresh.proofs.Wording.{run_past}
use Rattle.afresh.proofs.Quoting.{string_past}
use Rattle.afresh.proofs.Placing.{byte_at, rest_at, part_from}
use Rattle.afresh.proofs.Marking.{is_quoting}
use Rattle.judging.proofs.Shapes.{is_sharp, Closed, close, pair, byte, Solid, Made, none, some, mild}

-- a run
module _ (b : Bool) (more : ℕ) (h : (x : ℕ) → is_run more x ≡ true → is_sharp b x ≡ false) (r : List ℕ) (m : Made b r) where
  run-from : (k : ℕ) (xs : List ℕ) → Made b (take (run_from more k xs - k) xs ++ r)
  unfolding run_from
  run-from k [] = rw (take-nil (k - k)) m
  run-from k (x ∷ xs) =
      by_test (λ (e : ℕ). Made b (take (e - k) (x ∷ xs) ++ r)) (is_run more x)
      (λ e. let p : suc k ≤ run_from more (suc k) xs = run_past more (suc k) xs in
      let q : run_from more (suc k) xs - k ≡ suc (run_from more (suc k) xs - suc k) = omega arith in
      rw q (mild (h x e) (run-from (suc k) xs)))
      (λ e. let q : k - k ≡ 0 = omega arith in rw q m)

  pub run_made : (s : List ℕ) (k : ℕ) → Made b (part s k (run_end more s k) ++ r)
  unfolding run_end
  run_made s k = run-from k (drop k s)

pub run_after : (more : ℕ) (s : List ℕ) (k : ℕ) → k ≤ run_end more s k
unfolding run_end
run_after more s k = run_past more k (drop k s)

-- a string that nothing bars
unfinished : (ok : Bool) (u : List ℕ) → ◌≡◌ {A = ℕ} (cond ok 3 2) 0 → Closed u
unfinished true u z = absurd (omega arith)
unfinished false u z = absurd (omega arith)

pub string_closed : (esc ok : Bool) (i : ℕ) (xs : List ℕ) → (string_from esc ok i xs).bar ≡ 0 → Closed (joined_from esc (take ((string_from esc ok i xs).end - i) xs))
unfolding string_from joined_from
string_closed true ok i [] = λ z. unfinished ok _ z
string_closed false ok i [] = λ z. unfinished ok _ z
string_closed true ok i (x ∷ xs) = λ z.
    let r = string_from false (ok && is_legal x) (suc i) xs in
    let p : suc i ≤ r.end = string_past false (ok && is_legal x) (suc i) xs in
    let q : r.end - i ≡ suc (r.end - suc i) = omega arith in
    let c : Closed (joined_from false (take (r.end - suc i) xs)) = string_closed false (ok && is_legal x) (suc i) xs z in
    rw q (by_test (λ (u : List ℕ). Closed (u ++ joined_from false (take (r.end - suc i) xs))) (eqb x 10) (λ e. c) (λ e. pair e c))
string_closed false ok i (x ∷ xs) =
    by_test (λ (r : Scan). r.bar ≡ 0 → Closed (joined_from false (take (r.end - i) (x ∷ xs)))) (eqb x 34)
    (λ e z. let q : suc i - i ≡ 1 = omega arith in rw (q, eqb-true x 34 e) close)
    (λ e. by_test (λ (r : Scan). r.bar ≡ 0 → Closed (joined_from false (take (r.end - i) (x ∷ xs)))) (eqb x 10)
    (λ f z. unfinished ok _ z)
    (λ f z. go (eqb x 92) refl e f z (string_closed (eqb x 92) (ok && is_legal x) (suc i) xs z)))
  where
    go : (c : Bool) → eqb x 92 ≡ c → eqb x 34 ≡ false → eqb x 10 ≡ false → (string_from c (ok && is_legal x) (suc i) xs).bar ≡ 0
        → Closed (joined_from c (take ((string_from c (ok && is_legal x) (suc i) xs).end - suc i) xs))
        → Closed (joined_from false (take ((string_from c (ok && is_legal x) (suc i) xs).end - i) (x ∷ xs)))
    go true g e f z k =
        let p : suc i ≤ (string_from true (ok && is_legal x) (suc i) xs).end = string_past true (ok && is_legal x) (suc i) xs in
        let q : (string_from true (ok && is_legal x) (suc i) xs).end - i ≡ suc ((string_from true (ok && is_legal x) (suc i) xs).end - suc i) = omega arith in
        rw (q, g) k
    go false g e f z k =
        let p : suc i ≤ (string_from false (ok && is_legal x) (suc i) xs).end = string_past false (ok && is_legal x) (suc i) xs in
        let q : (string_from false (ok && is_legal x) (suc i) xs).end - i ≡ suc ((string_from false (ok && is_legal x) (suc i) xs).end - suc i) = omega arith in
        rw (q, g) (byte e f g k)

-- where an escaped name stops: at the end, at white space or at a `\`newline
pub data Stop (s : List ℕ) (e : ℕ) : Type 0 where
  out : length s ≤ e → Stop s e
  space : is_space (get_or s e 0) ≡ true → Stop s e
  turn : get_or s e 0 ≡ 92 → get_or s (e + 1) 0 ≡ 10 → Stop s e

-- an escaped name from i on
pub record Spans (s : List ℕ) (i : ℕ) (r : Scan) : Type 0 where
  pub past : i ≤ r.end
  pub solid : Solid (part s i r.end)
  pub stop : Stop s r.end

drop_short : (s : List ℕ) (i : ℕ) → drop i s ≡ [] → length s ≤ i
drop_short s i d = omega (arith, ap length d, length-drop i s)

module _ (s : List ℕ) where
  -- no byte
  spans_none : (i : ℕ) (ok : Bool) → Stop s i → Spans s i (scan i ok 0)
  spans_none i ok k = record { past = le_refl i; solid = rw (part_none s i i (le_refl i)) none; stop = k }

  spans_more : (i x : ℕ) (xs : List ℕ) (r : Scan) → drop i s ≡ x ∷ xs → is_span true x ≡ true → Spans s (suc i) r → Spans s i r
  spans_more i x xs r d e k =
      let p : suc i ≤ r.end = k.past in
      record { past = omega arith; solid = rw (part_from s i x xs d r.end p) (some e k.solid); stop = k.stop }

  span_space : (x : ℕ) → not (is_span true x) ≡ true → is_space x ≡ true
  span_space x = go (eqb x 10) (is_white x)
    where
      go : (a c : Bool) → not (not a && not (true && c)) ≡ true → (a || c) ≡ true
      go true c e = refl
      go false true e = refl
      go false false e = e

  span-from : (ok : Bool) (i : ℕ) (xs : List ℕ) → drop i s ≡ xs → Spans s i (span_from true true ok i xs)
  unfolding span_from
  span-from ok i [] d = spans_none i ok (out (drop_short s i d))
  span-from ok i (x ∷ xs) d =
      by_test (Spans s i) (not (is_span true x))
      (λ e. spans_none i ok (space (rw (byte_at s i (x ∷ xs) d) (span_space x e))))
      (λ e. by_test (Spans s i) (eqb x 92 && eqb (get_or xs 0 0) 10)
      (λ f. spans_none i ok
      (turn (byte_at s i (x ∷ xs) d ∙ eqb-true x 92 (and_left (eqb x 92) (eqb (get_or xs 0 0) 10) f))
      (byte_at s (i + 1) xs (rw (add-one i) (rest_at s i x xs d)) ∙ eqb-true (get_or xs 0 0) 10 (and_right (eqb x 92) (eqb (get_or xs 0 0) 10) f))))
      (λ f. spans_more i x xs (span_from true true (ok && is_legal x) (suc i) xs) d (not-false (is_span true x) e) (span-from (ok && is_legal x) (suc i) xs (rest_at s i x xs d))))

  pub spans : (i : ℕ) → Spans s i (span_end true true s i)
  unfolding span_end
  spans i = span-from true i (drop i s) refl

-- its length
pub named_fits : (n d : ℕ) → ◌≡◌ {A = ℕ} (cond (eqb n 0) (cond (ltb 1024 d) 6 0) n) 0 → d ≤ 1024
named_fits n d = go (eqb n 0) (ltb 1024 d) refl refl
  where
    go : (a c : Bool) → eqb n 0 ≡ a → ltb 1024 d ≡ c → ◌≡◌ {A = ℕ} (cond a (cond c 6 0) n) 0 → d ≤ 1024
    go true true p q z = absurd (omega arith)
    go true false p q z = ltb-false 1024 d q
    go false c p q z = true_false (eqb n 0) (eq-eqb n 0 z) p

pub part_length : (s : List ℕ) (i e : ℕ) → e - i ≤ 1024 → length (part s i e) ≤ 1024
part_length s i e h = rw length-take (omega arith)

-- it is no more an escaped quote mark than what it is taken from
byte_of : (p : ℕ → Bool) → p 0 ≡ false → (k : ℕ) (l : List ℕ) (m : ℕ) → p (get_or (take k l) m 0) ≡ true → p (get_or l m 0) ≡ true
byte_of p z zero l m e = true_false (p 0) e z
byte_of p z (suc k) [] m e = e
byte_of p z (suc k) (x ∷ l) zero e = e
byte_of p z (suc k) (x ∷ l) (suc m) e = byte_of p z k l m e

pub taken_unmarked : (k : ℕ) (l : List ℕ) → is_quoting l ≡ false → is_quoting (take k l) ≡ false
taken_unmarked k l e = go (eqb (get_or (take k l) 0 0) 96) (eqb (get_or (take k l) 1 0) 34) refl refl
  where
    go : (a c : Bool) → eqb (get_or (take k l) 0 0) 96 ≡ a → eqb (get_or (take k l) 1 0) 34 ≡ c → (a && c) ≡ false
    go true true p q =
        true_false (is_quoting l) (rw (byte_of (λ x. eqb x 96) refl k l 0 p, byte_of (λ x. eqb x 34) refl k l 1 q)) e
    go true false p q = refl
    go false c p q = refl
