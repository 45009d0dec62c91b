-- Bytes that lie in a buffer at an index: parts of them, and lengths of two bytes before them.
-- Assumes nothing.
use mathlib.Core.Path.{◌≡◌, refl, sym, ap, ◌∙◌}
use mathlib.Core.List.{List, [], ◌∷◌, ◌++◌}
use Prim.Native.Nat.{ℕ, suc, ◌+◌, ◌-◌, ◌*◌, ◌/◌, ◌%◌, ◌≤◌, ◌<◌}
use native.Mathlib.Nat.{mod-eq_of_lt, add-mul-mod_self_left}
use native.Mathlib.Omega.{arith}
use lib.ListN.{length, take, drop, get_or, length-append, length-drop}
use lib.Seq.{take_at, drop_at, take-take, take-add, drop-drop, drop-cons, length-take-le}
use Rattle.text.specs.Bytes.{part, two_at}
use Rattle.form.specs.Forms.{two, sized}

-- xs lie in b from i on
pub record Lies (b : List ℕ) (i : ℕ) (xs : List ℕ) : Type 0 where
  pub fits : i + length xs ≤ length b
  pub bytes : take (length xs) (drop i b) ≡ xs

pub part_length : (b : List ℕ) (i e : ℕ) → e ≤ length b → length (part b i e) ≡ e - i
part_length b i e h = length-take-le (e - i) (drop i b) (omega (arith, length-drop i b))

-- the two bytes of a number below 65,536
low_byte : (x y n : ℕ) → x < 256 → n ≡ x + 256 * y → n % 256 ≡ x
low_byte x y n h e = ap (λ (k : ℕ). k % 256) e ∙ add-mul-mod_self_left x 256 y ∙ mod-eq_of_lt h

high_byte : (x y n : ℕ) → x < 256 → y < 256 → n ≡ x + 256 * y → n / 256 % 256 ≡ y
high_byte x y n h k e =
    let l : n % 256 ≡ x = low_byte x y n h e in
    let d : n / 256 ≡ y = omega arith in
    ap (λ (j : ℕ). j % 256) d ∙ mod-eq_of_lt k

module _ {b : List ℕ} where
  pub lies_none : (i : ℕ) → i ≤ length b → Lies b i []
  lies_none i h = record { fits = omega arith; bytes = refl }

  -- their front, their back, and both together
  pub lies_front : {i : ℕ} (xs ys : List ℕ) → Lies b i (xs ++ ys) → Lies b i xs
  lies_front {i} xs ys h =
      let n : length (xs ++ ys) ≡ length xs + length ys = length-append xs ys in
      record {
        fits = omega (arith, h.fits);
        bytes =
            sym (take-take (length xs) (length (xs ++ ys)) (drop i b) (omega arith))
            ∙ ap (take (length xs)) h.bytes
            ∙ take_at xs ys (length xs) refl;
      }

  pub lies_back : {i j : ℕ} (xs ys : List ℕ) → Lies b i (xs ++ ys) → j ≡ i + length xs → Lies b j ys
  lies_back {i} {j} xs ys h e =
      let n : length (xs ++ ys) ≡ length xs + length ys = length-append xs ys in
      let f : Lies b i xs = lies_front xs ys h in
      let d : List ℕ = drop i b in
      let t : take (length xs) d ++ take (length ys) (drop (length xs) d) ≡ xs ++ ys =
      sym (take-add (length xs) (length ys) d) ∙ ap (λ (k : ℕ). take k d) (sym n) ∙ h.bytes in
      let l : length (take (length xs) d) ≡ length xs = ap length f.bytes in
      record {
        fits = omega (arith, h.fits);
        bytes =
            ap (λ (k : ℕ). take (length ys) (drop k b)) e
            ∙ ap (take (length ys)) (sym (drop-drop (length xs) i b))
            ∙ sym (drop_at (take (length xs) d) (take (length ys) (drop (length xs) d)) (length xs) l)
            ∙ ap (drop (length xs)) t
            ∙ drop_at xs ys (length xs) refl;
      }

  pub lies_both : {i j : ℕ} (xs ys : List ℕ) → Lies b i xs → Lies b j ys → j ≡ i + length xs → Lies b i (xs ++ ys)
  lies_both {i} {j} xs ys f g e =
      let n : length (xs ++ ys) ≡ length xs + length ys = length-append xs ys in
      let d : List ℕ = drop i b in
      let q : drop (length xs) d ≡ drop j b = drop-drop (length xs) i b ∙ ap (λ (k : ℕ). drop k b) (sym e) in
      record {
        fits = omega (arith, g.fits);
        bytes =
            ap (λ (k : ℕ). take k d) n
            ∙ take-add (length xs) (length ys) d
            ∙ rw (f.bytes, q, g.bytes);
      }

  -- as a part
  pub lies_part : {i e : ℕ} {xs : List ℕ} → Lies b i xs → e ≡ i + length xs → part b i e ≡ xs
  lies_part {i} {e} {xs} h q =
      let n : e - i ≡ length xs = omega arith in
      rw n h.bytes

  pub part_lies : (i e : ℕ) → i ≤ e → e ≤ length b → Lies b i (part b i e)
  part_lies i e h k =
      let n : length (part b i e) ≡ e - i = part_length b i e k in
      record {
        fits = omega arith;
        bytes = ap (λ (m : ℕ). take m (drop i b)) n;
      }

  -- one byte
  pub lies_byte : {i : ℕ} (x : ℕ) (xs : List ℕ) → Lies b i (x ∷ xs) → get_or b i 0 ≡ x
  lies_byte {i} x xs h =
      let l : i < length b = omega (arith, h.fits) in
      let t : get_or b i 0 ∷ take (length xs) (drop (suc i) b) ≡ x ∷ xs = rw (drop-cons b i 0 l) at h.bytes in
      cc

  pub byte_lies : (i : ℕ) → i < length b → Lies b i (get_or b i 0 ∷ [])
  byte_lies i h = record { fits = omega arith; bytes = rw (drop-cons b i 0 h) }

  -- a length of two bytes
  pub lies_two : {i : ℕ} (n : ℕ) (xs : List ℕ) → n < 65536 → Lies b i (two n ++ xs) → two_at b i ≡ n
  lies_two {i} n xs l h =
      let p : get_or b i 0 ≡ n % 256 = lies_byte (n % 256) (n / 256 % 256 ∷ xs) h in
      let q : get_or b (i + 1) 0 ≡ n / 256 % 256 = lies_byte (n / 256 % 256) xs (lies_back (n % 256 ∷ []) (n / 256 % 256 ∷ xs) h refl) in
      omega arith

  pub two_lies : (i n : ℕ) → ((j : ℕ) → get_or b j 0 < 256) → i + 2 ≤ length b → n ≡ two_at b i → Lies b i (two n)
  two_lies i n s h e =
      let p : n % 256 ≡ get_or b i 0 = low_byte (get_or b i 0) (get_or b (i + 1) 0) n (s i) e in
      let q : n / 256 % 256 ≡ get_or b (i + 1) 0 = high_byte (get_or b i 0) (get_or b (i + 1) 0) n (s i) (s (i + 1)) e in
      lies_both (n % 256 ∷ []) (n / 256 % 256 ∷ []) (rw p (byte_lies i (omega arith))) (rw q (byte_lies (i + 1) (omega arith))) refl

  -- bytes with their length before them
  pub sized_lies : (i : ℕ) {j : ℕ} (d : List ℕ) → ((k : ℕ) → get_or b k 0 < 256) → length d ≡ two_at b i → Lies b j d → j ≡ i + 2 → Lies b i (sized d)
  sized_lies i d s e h q = lies_both (two (length d)) d (two_lies i (length d) s (omega (arith, h.fits)) e) h q
