-- What a definition can store, told by its bytes alone; white space at its ends dropped, it is such still.
-- Assumes nothing.
use Prim.Native.Nat.{ℕ, ◌≤◌}
use mathlib.Core.Bool.{Bool, true, false, not, ◌&&◌, ◌||◌}
use mathlib.Core.List.{List, [], ◌∷◌, ◌++◌}
use mathlib.Core.Path.{◌≡◌, refl, ap, ◌∙◌}
use lib.Dec.{eqb}
use lib.ListN.{length, get_or}
use Rattle.lex.specs.Classes.{is_white, is_space, is_start, is_span}
use Rattle.lex.proofs.Tests.{by_test}
use Rattle.storing.specs.Stored.{keep, trim_left, trim_right}
use Rattle.afresh.proofs.Sorts.{start_white, apart}
use Rattle.afresh.proofs.Marking.{is_quoting}

-- a byte that may begin more than a byte or a run, and the newline; b: between quote marks
abbrev pub is_sharp : Bool → ℕ → Bool
is_sharp b x = eqb x 10 || (eqb x 34 || (eqb x 96 || (not b && (eqb x 47 || eqb x 92))))

-- past the `"` of a string up to the one that closes it, without a newline
pub data Closed : List ℕ → Type 0 where
  close : Closed (34 ∷ [])
  pair : {x : ℕ} {u : List ℕ} → eqb x 10 ≡ false → Closed u → Closed (92 ∷ x ∷ u)
  byte : {x : ℕ} {u : List ℕ} → eqb x 34 ≡ false → eqb x 10 ≡ false → eqb x 92 ≡ false → Closed u → Closed (x ∷ u)

-- the bytes of an escaped name
pub data Solid : List ℕ → Type 0 where
  none : Solid []
  some : {x : ℕ} {n : List ℕ} → is_span true x ≡ true → Solid n → Solid (x ∷ n)

-- nothing, or white space first
pub data Spaced : List ℕ → Type 0 where
  none : Spaced []
  some : {x : ℕ} {p : List ℕ} → is_space x ≡ true → Spaced (x ∷ p)

-- what makes a comment of a `/` before it
abbrev pub is_slashed : ℕ → Bool
is_slashed x = eqb x 47 || eqb x 42

-- some stored text, b: read on between quote marks
pub data Made : Bool → List ℕ → Type 0 where
  none : {b : Bool} → Made b []
  mild : {b : Bool} {x : ℕ} {p : List ℕ} → is_sharp b x ≡ false → Made b p → Made b (x ∷ p)
  line : {p : List ℕ} → Made false p → Made false (10 ∷ p)
  string : {b : Bool} {u p : List ℕ} → Closed u → Made b p → Made b (34 ∷ (u ++ p))
  quote : {b : Bool} {p : List ℕ} → Made (not b) p → Made b (96 ∷ 34 ∷ p)
  joiner : {b : Bool} {p : List ℕ} → Made b p → Made b (96 ∷ 96 ∷ p)
  mark : {b : Bool} {p : List ℕ} → Made b p → Made b (96 ∷ 92 ∷ 96 ∷ 34 ∷ p)
  word : {b : Bool} {x : ℕ} {p : List ℕ} → is_start x ≡ true → Made b p → Made b (96 ∷ x ∷ p)
  slash : {p : List ℕ} → is_slashed (get_or p 0 0) ≡ false → Made false p → Made false (47 ∷ p)
  solid : {n p : List ℕ} → Solid n → length n ≤ 1024 → Spaced p → Made false p → Made false (92 ∷ (n ++ p))
  slanted : {n p : List ℕ} → is_quoting n ≡ false → Solid n → length n ≤ 1024 → Spaced p → Made false p → Made false (96 ∷ 92 ∷ (n ++ p))

-- a byte that passes a test is mild
pub mild_by : (p : ℕ → Bool) → p 10 ≡ false → p 34 ≡ false → p 96 ≡ false → p 47 ≡ false → p 92 ≡ false → (b : Bool) (x : ℕ) → p x ≡ true → is_sharp b x ≡ false
mild_by p q r s t u true x e = rw (apart p x 10 e q, apart p x 34 e r, apart p x 96 e s)
mild_by p q r s t u false x e = rw (apart p x 10 e q, apart p x 34 e r, apart p x 96 e s, apart p x 47 e t, apart p x 92 e u)

-- a byte of an escaped name is no white space
pub span_solid : (x : ℕ) → is_span true x ≡ true → is_space x ≡ false
span_solid x = go (eqb x 10) (is_white x)
  where
    go : (a c : Bool) → (not a && not (true && c)) ≡ true → (a || c) ≡ false
    go true c e = cc
    go false true e = cc
    go false false e = refl

-- white space on the left
pub made_left : {b : Bool} {p : List ℕ} → Made b p → Made b (trim_left p)
unfolding trim_left
made_left none = none
made_left {b} (mild {x = x} {p = p} e m) = by_test (Made b) (is_space x) (λ t. made_left m) (λ t. mild e m)
made_left (line m) = made_left m
made_left (string c m) = string c m
made_left (quote m) = quote m
made_left (joiner m) = joiner m
made_left (mark m) = mark m
made_left (word e m) = word e m
made_left (slash e m) = slash e m
made_left (solid n l s m) = solid n l s m
made_left (slanted k n l s m) = slanted k n l s m

-- what is no white space stays
keep_one : (x : ℕ) (r : List ℕ) → is_space x ≡ false → keep x r ≡ x ∷ r
keep_one x [] e = rw e
keep_one x (y ∷ ys) e = refl

keep_closed : (x : ℕ) (u r : List ℕ) → Closed u → keep x (u ++ r) ≡ x ∷ (u ++ r)
keep_closed x u r close = refl
keep_closed x u r (pair e c) = refl
keep_closed x u r (byte e f g c) = refl

closed_trim : (u p : List ℕ) → Closed u → trim_right (u ++ p) ≡ u ++ trim_right p
unfolding trim_right
closed_trim u p close = keep_one 34 (trim_right p) refl
closed_trim u p (pair {x = x} {u = v} e c) =
    ap (λ r. keep 92 (keep x r)) (closed_trim v p c) ∙ ap (keep 92) (keep_closed x v (trim_right p) c)
closed_trim u p (byte {x = x} {u = v} e f g c) = ap (keep x) (closed_trim v p c) ∙ keep_closed x v (trim_right p) c

solid_trim : (n p : List ℕ) → Solid n → trim_right (n ++ p) ≡ n ++ trim_right p
unfolding trim_right
solid_trim n p none = refl
solid_trim n p (some {x = x} {n = m} e s) = ap (keep x) (solid_trim m p s) ∙ keep_one x (m ++ trim_right p) (span_solid x e)

spaced_trim : {p : List ℕ} → Spaced p → Spaced (trim_right p)
unfolding trim_right
spaced_trim none = none
spaced_trim (some {x = x} {p = p} e) = go (trim_right p)
  where
    go : (r : List ℕ) → Spaced (keep x r)
    go [] = rw e none
    go (y ∷ ys) = some e

head_trim : (p : List ℕ) → is_slashed (get_or p 0 0) ≡ false → is_slashed (get_or (trim_right p) 0 0) ≡ false
unfolding trim_right
head_trim [] e = e
head_trim (x ∷ p) e = go (trim_right p)
  where
    go : (r : List ℕ) → is_slashed (get_or (keep x r) 0 0) ≡ false
    go [] = by_test (λ (r : List ℕ). is_slashed (get_or r 0 0) ≡ false) (is_space x) (λ t. refl) (λ t. e)
    go (y ∷ ys) = e

mild_trim : (b : Bool) (x : ℕ) (r : List ℕ) → is_sharp b x ≡ false → Made b r → Made b (keep x r)
mild_trim b x [] e m = by_test (Made b) (is_space x) (λ t. none) (λ t. mild e none)
mild_trim b x (y ∷ ys) e m = mild e m

line_trim : (r : List ℕ) → Made false r → Made false (keep 10 r)
line_trim [] m = none
line_trim (y ∷ ys) m = line m

start_solid : (x : ℕ) → is_start x ≡ true → is_space x ≡ false
start_solid x e = rw (apart is_start x 10 e refl, start_white x e)

-- white space on the right
pub made_right : {b : Bool} {p : List ℕ} → Made b p → Made b (trim_right p)
unfolding trim_right
made_right none = none
made_right {b} (mild {x = x} {p = p} e m) = mild_trim b x (trim_right p) e (made_right m)
made_right (line {p = p} m) = line_trim (trim_right p) (made_right m)
made_right (string {u = u} {p = p} c m) =
    rw (closed_trim u p c, keep_one 34 (u ++ trim_right p) refl) (string c (made_right m))
made_right (quote {p = p} m) = rw (keep_one 34 (trim_right p) refl) (quote (made_right m))
made_right (joiner {p = p} m) = rw (keep_one 96 (trim_right p) refl) (joiner (made_right m))
made_right (mark {p = p} m) = rw (keep_one 34 (trim_right p) refl) (mark (made_right m))
made_right (word {x = x} {p = p} e m) = rw (keep_one x (trim_right p) (start_solid x e)) (word e (made_right m))
made_right (slash {p = p} e m) = rw (keep_one 47 (trim_right p) refl) (slash (head_trim p e) (made_right m))
made_right (solid {n = n} {p = p} s l k m) =
    rw (solid_trim n p s, keep_one 92 (n ++ trim_right p) refl) (solid s l (spaced_trim k) (made_right m))
made_right (slanted {n = n} {p = p} e s l k m) =
    rw (solid_trim n p s, keep_one 92 (n ++ trim_right p) refl) (slanted e s l (spaced_trim k) (made_right m))
