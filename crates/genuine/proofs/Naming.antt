-- The name of a token that nothing bars is fit for a macro; that of a plain one also for a formal.
-- Assumes nothing.
use Prim.Native.Nat.{ℕ, suc, ◌+◌, ◌-◌, ◌<◌, ◌≤◌}
use mathlib.Core.Bool.{Bool, true, false, cond, not, ◌&&◌, ◌||◌}
use mathlib.Core.List.{List, [], ◌∷◌}
use mathlib.Core.Path.{◌≡◌, refl}
use native.Mathlib.Omega.{arith}
use lib.Dec.{eqb, leb, ltb}
use lib.ListN.{length, get_or, take, drop, length-drop}
use lib.Seq.{length-take-le}
use borrow.Author.Tests.{eqb-true, eqb-false, leb-true, le-leb, lt-ltb, ltb-false, not-true, not-false}
use Rattle.text.specs.Bytes.{part}
use Rattle.text.proofs.Matching.{part_more}
use Rattle.lex.specs.Classes.{is_white, is_letter, is_digit, is_start, is_run, is_span, is_legal}
use Rattle.lex.specs.Scans.{run_from, run_end, span_from, span_end}
use Rattle.lex.specs.Tokens.{Name, Escaped, is, name_of}
use Rattle.lex.specs.declared.Scan.{Scan}
use Rattle.lex.specs.declared.Token.{Token}
use Rattle.lex.proofs.Tests.{by_test, and_left, and_right, true_false}
use Rattle.lex.proofs.Progress.{run_inside, span_inside}
use Rattle.genuine.specs.Fitness.{is_short, all_solid, all_run, is_plain, fit_formal}
use Rattle.genuine.proofs.Tests.{or_right}
use Rattle.definition.proofs.Seeing.{Seen, one, word, slanted, other}

-- either of two tests
either : {A : Type 0} (a b : Bool) → (a || b) ≡ true → (a ≡ true → A) → (b ≡ true → A) → A
either true b e f g = f refl
either false b e f g = g e

-- a byte of a name is legal and no white space
abbrev is_solid : ℕ → Bool
is_solid x = leb 33 x && leb x 126

solid_within : (x : ℕ) → 33 ≤ x → x ≤ 126 → is_solid x ≡ true
solid_within x p q = rw (le-leb 33 x p, le-leb x 126 q)

solid_between : (x a b : ℕ) → 33 ≤ a → b ≤ 126 → (leb a x && leb x b) ≡ true → is_solid x ≡ true
solid_between x a b p q e =
    let l = leb-true a x (and_left (leb a x) (leb x b) e) in
    let h = leb-true x b (and_right (leb a x) (leb x b) e) in
    solid_within x (omega arith) (omega arith)

solid_one : (x a : ℕ) → 33 ≤ a → a ≤ 126 → eqb x a ≡ true → is_solid x ≡ true
solid_one x a p q e = let l = eqb-true x a e in solid_within x (omega arith) (omega arith)

start_solid : (x : ℕ) → is_start x ≡ true → is_solid x ≡ true
start_solid x e =
    either (is_letter x) (eqb x 95) e
    (λ e. either (leb 65 x && leb x 90) (leb 97 x && leb x 122) e (solid_between x 65 90 (omega arith) (omega arith)) (solid_between x 97 122 (omega arith) (omega arith)))
    (solid_one x 95 (omega arith) (omega arith))

run_solid : (x : ℕ) → is_run 36 x ≡ true → is_solid x ≡ true
run_solid x e =
    either (is_start x) (is_digit x || eqb x 36) e (start_solid x)
    (λ e. either (is_digit x) (eqb x 36) e (solid_between x 48 57 (omega arith) (omega arith)) (solid_one x 36 (omega arith) (omega arith)))

span_solid : (x : ℕ) → is_span true x ≡ true → is_legal x ≡ true → is_solid x ≡ true
span_solid x e f =
    let n : eqb x 10 ≡ false = not-true (eqb x 10) (and_left (not (eqb x 10)) (not (is_white x)) e) in
    let w : is_white x ≡ false = not-true (is_white x) (and_right (not (eqb x 10)) (not (is_white x)) e) in
    let g : (leb 32 x && leb x 126) ≡ true = rw (n, w) at f in
    let l = leb-true 32 x (and_left (leb 32 x) (leb x 126) g) in
    let h = leb-true x 126 (and_right (leb 32 x) (leb x 126) g) in
    let z : x ≡ 32 → ⊥ = eqb-false x 32 (or_right (eqb x 12) (eqb x 32) (or_right (eqb x 9) (eqb x 12 || eqb x 32) w)) in
    solid_within x (omega arith) h

-- a run
record RunTo (i : ℕ) (xs : List ℕ) (e : ℕ) : Type 0 where
  past : i ≤ e
  all : all_run (take (e - i) xs) ≡ true

run_none : (i : ℕ) (xs : List ℕ) → RunTo i xs i
unfolding all_run
run_none i xs = record { past = omega arith; all = let z : i - i ≡ 0 = omega arith in rw z }

run_to : (i : ℕ) (xs : List ℕ) → RunTo i xs (run_from 36 i xs)
unfolding all_run run_from
run_to i [] = run_none i []
run_to i (x ∷ xs) =
    by_test (RunTo i (x ∷ xs)) (is_run 36 x)
    (λ q. let r = run_to (suc i) xs in
    let z : run_from 36 (suc i) xs - i ≡ suc (run_from 36 (suc i) xs - suc i) = omega (arith, r.past) in
    record { past = omega (arith, r.past); all = rw (z, q) r.all })
    (λ q. run_none i (x ∷ xs))

all-solid : (xs : List ℕ) → all_run xs ≡ true → all_solid xs ≡ true
unfolding all_run all_solid
all-solid [] e = refl
all-solid (x ∷ xs) e =
    rw (run_solid x (and_left (is_run 36 x) (all_run xs) e)) (all-solid xs (and_right (is_run 36 x) (all_run xs) e))

-- an escaped name
record SolidTo (ok : Bool) (i : ℕ) (xs : List ℕ) (e : ℕ) : Type 0 where
  legal : ok ≡ true
  past : i ≤ e
  all : all_solid (take (e - i) xs) ≡ true

clean : (ok : Bool) → ◌≡◌ {A = ℕ} (cond ok 0 2) 0 → ok ≡ true
clean true e = refl
clean false e = absurd (omega arith)

solid_none : (ok : Bool) (i : ℕ) (xs : List ℕ) → ◌≡◌ {A = ℕ} (cond ok 0 2) 0 → SolidTo ok i xs i
unfolding all_solid
solid_none ok i xs e = record { legal = clean ok e; past = omega arith; all = let z : i - i ≡ 0 = omega arith in rw z }

solid_to : (ok : Bool) (i : ℕ) (xs : List ℕ) → (span_from true true ok i xs).bar ≡ 0 → SolidTo ok i xs (span_from true true ok i xs).end
unfolding all_solid span_from
solid_to ok i [] = solid_none ok i []
solid_to ok i (x ∷ xs) =
    by_test P (not (is_span true x)) (λ q. solid_none ok i (x ∷ xs))
    (λ q. by_test P (true && (eqb x 92 && eqb (get_or xs 0 0) 10)) (λ p. solid_none ok i (x ∷ xs))
    (λ p z. let r = solid_to (ok && is_legal x) (suc i) xs z in
    let e = (span_from true true (ok && is_legal x) (suc i) xs).end in
    let n : e - i ≡ suc (e - suc i) = omega (arith, r.past) in
    let f : is_solid x ≡ true = span_solid x (not-false (is_span true x) q) (and_right ok (is_legal x) r.legal) in
    record { legal = and_left ok (is_legal x) r.legal; past = omega (arith, r.past); all = rw (n, f) r.all }))
  where
    P : Scan → Type 0
    P r = r.bar ≡ 0 → SolidTo ok i (x ∷ xs) r.end

-- 1 to 1,024 bytes
name_short : (s : List ℕ) (a e : ℕ) → a < e → e ≤ length s → e - a ≤ 1024 → is_short (part s a e) ≡ true
name_short s a e h l k =
    let n : length (part s a e) ≡ e - a = length-take-le (e - a) (drop a s) (omega (arith, length-drop a s)) in
    rw (n, lt-ltb 0 (e - a) (omega arith), le-leb (e - a) 1024 k)

-- what bars no name, and its length
free_short : (n k : ℕ) → ◌≡◌ {A = ℕ} (cond (eqb n 0) (cond (ltb 1024 k) 6 0) n) 0 → (n ≡ 0) × (k ≤ 1024)
free_short n k e = go (eqb n 0) (ltb 1024 k) refl refl e
  where
    go : (a b : Bool) → eqb n 0 ≡ a → ltb 1024 k ≡ b → cond a (cond b 6 0) n ≡ 0 → (n ≡ 0) × (k ≤ 1024)
    go true true p q e = absurd (omega arith)
    go true false p q e = (eqb-true n 0 p, ltb-false 1024 k q)
    go false b p q e = absurd (eqb-false n 0 p e)

-- a macro's name, but for the names of directives
pub record Solid (n : List ℕ) : Type 0 where
  pub short : is_short n ≡ true
  pub solid : all_solid n ≡ true

plain_solid : (n : List ℕ) → is_plain n ≡ true → all_solid n ≡ true
unfolding all_solid
plain_solid [] e = cc
plain_solid (x ∷ xs) e =
    rw (start_solid x (and_left (is_start x) (all_run xs) e)) (all-solid xs (and_right (is_start x) (all_run xs) e))

-- so is a formal's
pub formal_solid : (n : List ℕ) → fit_formal n ≡ true → Solid n
unfolding fit_formal
formal_solid n e =
    record { short = and_left (is_short n) (is_plain n) e; solid = plain_solid n (and_right (is_short n) (is_plain n) e) }

module _ {s : List ℕ} {i : ℕ} (l : i < length s) where
  pub word_fit : {t : Token} → Seen s i t → is Name t ≡ true → t.bar ≡ 0 → fit_formal (name_of s t) ≡ true
  unfolding fit_formal run_end
  word_fit (one k n p q) e z = cc
  word_fit (word h) e z =
      let r = run_inside s (i + 1) (omega arith) 36 in
      let u = run_end 36 s (i + 1) in
      rw (name_short s i u (omega arith) r.within (free_short 0 (u - i) z).1, part_more s i u (omega arith) l, h)
      (run_to (i + 1) (drop (i + 1) s)).all
  word_fit (slanted h) e z = cc
  word_fit (other t f g h k) e z = cc

  pub slanted_fit : {t : Token} → Seen s i t → is Escaped t ≡ true → t.bar ≡ 0 → Solid (name_of s t)
  unfolding span_end
  slanted_fit (one k n p q) e z = true_false (eqb k Escaped) e q
  slanted_fit (word h) e z = true_false false e refl
  slanted_fit (slanted h) e z =
      let r = span_inside s (i + 1) (omega arith) true true in
      let u = span_end true true s (i + 1) in
      let f = free_short u.bar (u.end - (i + 1)) z in
      let n : u.end ≡ i + 1 → ⊥ = eqb-false u.end (i + 1) h in
      record {
        short = name_short s (i + 1) u.end (omega (arith, r.past)) r.within f.1;
        solid = (solid_to true (i + 1) (drop (i + 1) s) f.0).all;
      }
  slanted_fit (other t f g h k) e z = true_false (is Escaped t) e k
