-- The laws of `spliced`: how it is made by moves, copies and blanks, and what it does to a packed buffer. Assumes nothing.
use mathlib.Core.Path.{◌≡◌, refl, sym, ap, ◌∙◌}
use mathlib.Core.List.{List, [], ◌∷◌, ◌++◌, append_assoc}
use Prim.Native.Nat.{ℕ, zero, suc, ◌+◌, ◌-◌, ◌≤◌, ◌<◌, max}
use native.Mathlib.Omega.{arith}
use lib.ListN.{length, take, drop, set, replicate, length-append, length-drop, length-replicate, replicate-append-replicate}
use lib.Seq.{paste, paste-zero, length-paste, take_all, take_at, drop_at, take-length, take-take, take-append-le, drop-append-add, drop-drop, length-take-le, set_split}
use Rattle.std.proofs.lemmas.List.{drop-replicate}
use Rattle.std.proofs.lemmas.List.Edits.{paste_all}
use Rattle.packed.specs.Splicing.{live_after, spliced}

-- the blanks of a packed buffer, where a part of length f is replaced by n elements
blanks_after : (live f n k : ℕ) → f ≤ live → n ≤ f + k → live - (live - f + n) + (k - (max live (live - f + n) - live)) ≡ k + f - n
blanks_after live f n k h g = omega arith

module _ {A : Type 0} where
  -- a move of the tail, and then a copy before it
  moved_copied : (l x y xs : List A) (i old t : ℕ) → i + old + t ≤ length l → i + length xs + t ≤ length l
      → x ≡ paste l (i + length xs) (drop (i + old) l) t → y ≡ paste x i xs (length xs)
      → y ≡ take i l ++ (xs ++ (take t (drop (i + old) l) ++ drop (i + length xs + t) l))
  moved_copied l x y xs i old t h k ex ey =
      let n : ℕ = length xs in
      let m : List A = take t (drop (i + old) l) in
      let r : List A = drop (i + n + t) l in
      let lt : length (take (i + n) l) ≡ i + n = length-take-le (i + n) l (omega arith) in
      let s : x ≡ take (i + n) l ++ (m ++ r) = ex ∙ append_assoc (take (i + n) l) m r in
      let p : take i x ≡ take i l = ap (take i) s ∙ take-append-le i (take (i + n) l) (m ++ r) (omega arith) ∙ take-take i (i + n) l (omega arith) in
      let q : drop (i + n) x ≡ m ++ r = ap (drop (i + n)) s ∙ drop_at (take (i + n) l) (m ++ r) (i + n) lt in
      ey ∙ rw (p, q, take-length) (append_assoc (take i l) xs (m ++ r))

  -- the code's way: the tail moves, the new elements come before it, and what is left over at its end is blanked
  pub spliced_made : (blank : A) (l x y w xs : List A) (i old live : ℕ) → i + old ≤ live → live ≤ length l → live_after old xs live ≤ length l
      → x ≡ paste l (i + length xs) (drop (i + old) l) (live - (i + old)) → y ≡ paste x i xs (length xs)
      → w ≡ paste y (live_after old xs live) (replicate (live - live_after old xs live) blank) (live - live_after old xs live)
      → w ≡ spliced blank l i old xs live
  unfolding spliced
  spliced_made blank l x y w xs i old live h k g ex ey ew =
      let n : ℕ = length xs in
      let t : ℕ = live - (i + old) in
      let e : ℕ = live_after old xs live in
      let c : ℕ = live - e in
      let m : List A = take t (drop (i + old) l) in
      let f : List A = take i l ++ (xs ++ m) in
      let lm : length m ≡ t = length-take-le t (drop (i + old) l) (rw length-drop (omega arith)) in
      let li : length (take i l) ≡ i = length-take-le i l (omega arith) in
      let lf : length f ≡ e = simp length-append (omega arith) in
      let d : i + n + t ≡ e = omega arith in
      let s : y ≡ f ++ drop e l =
      moved_copied l x y xs i old t (omega arith) (omega arith) ex ey ∙ ap (λ (j : ℕ). take i l ++ (xs ++ (m ++ drop j l))) d ∙ simp append_assoc in
      let p : take e y ≡ f = ap (take e) s ∙ take_at f (drop e l) e lf in
      let q : drop (e + c) y ≡ drop (e + c) l =
      ap (drop (e + c)) s ∙ ap (λ (j : ℕ). drop (j + c) (f ++ drop e l)) (sym lf) ∙ drop-append-add f (drop e l) c ∙ drop-drop c e l in
      let v : take c (replicate c blank) ≡ replicate c blank = take_all c (replicate c blank) (omega (arith, length-replicate c blank)) in
      let z : max live e ≡ e + c = omega arith in
      ew ∙ rw (p, q, v, z) (simp append_assoc)

  -- a store is the copy of one element
  set_paste : (l : List A) (i : ℕ) (v : A) → i < length l → set l i v ≡ paste l i (v ∷ []) (suc zero)
  set_paste l i v h = let e : suc i ≡ i + suc zero = omega arith in set_split l i v h ∙ ap (λ (j : ℕ). take i l ++ (v ∷ drop j l)) e ∙ sym (paste_all l i (v ∷ []) (suc zero) refl)

  -- nothing is left over where one element comes in
  pub spliced_in : (blank v : A) (l x : List A) (i live : ℕ) → i ≤ live → live < length l
      → x ≡ paste l (i + 1) (drop i l) (live - i) → set x i v ≡ spliced blank l i 0 (v ∷ []) live
  spliced_in blank v l x i live h k ex =
      let n : length x ≡ length l = ap length ex ∙ length-paste l (i + 1) (drop i l) (live - i) (omega arith) (rw length-drop (omega arith)) in
      let none : live - live_after 0 (v ∷ []) live ≡ 0 = omega arith in
      let e₀ : i + 0 ≡ i = omega arith in
      let e₁ : i + suc zero ≡ i + 1 = omega arith in
      spliced_made blank l x (set x i v) (set x i v) (v ∷ []) i 0 live (omega arith) (omega arith) (omega arith) (rw (e₁, e₀) ex) (set_paste x i v (omega arith))
      (rw none (paste-zero (set x i v) (live_after 0 (v ∷ []) live) []))

  -- and one is left over where one goes
  pub spliced_out : (blank : A) (l x : List A) (i live : ℕ) → i < live → live ≤ length l
      → x ≡ paste l i (drop (i + 1) l) (live - (i + 1)) → set x (live - 1) blank ≡ spliced blank l i 1 [] live
  spliced_out blank l x i live h k ex =
      let n : length x ≡ length l = ap length ex ∙ length-paste l i (drop (i + 1) l) (live - (i + 1)) (omega arith) (rw length-drop (omega arith)) in
      let e₀ : i + 0 ≡ i = omega arith in
      let one : live - live_after {A = A} 1 [] live ≡ suc zero = omega arith in
      let last : live_after {A = A} 1 [] live ≡ live - 1 = omega arith in
      spliced_made blank l x x (set x (live - 1) blank) [] i 1 live (omega arith) (omega arith) (omega arith) (rw e₀ ex) (paste-zero x i [])
      (rw (one, last) (set_paste x (live - 1) blank (omega arith)))

  -- its length
  pub length_spliced : (blank : A) (l xs : List A) (i old live : ℕ) → i + old ≤ live → live ≤ length l → live_after old xs live ≤ length l
      → length (spliced blank l i old xs live) ≡ length l
  unfolding spliced
  length_spliced blank l xs i old live h k m =
      let li : length (take i l) ≡ i = length-take-le i l (omega arith) in
      let lt : length (take (live - (i + old)) (drop (i + old) l)) ≡ live - (i + old) = length-take-le (live - (i + old)) (drop (i + old) l) (rw length-drop (omega arith)) in
      simp (length-append, length-drop, length-replicate, li, lt) (omega arith)

  -- a part f of a packed buffer replaced by xs
  pub spliced_packed : (blank : A) (l a f b xs : List A) (i old live k : ℕ) → l ≡ (a ++ (f ++ b)) ++ replicate k blank
      → i ≡ length a → old ≡ length f → live ≡ length (a ++ (f ++ b)) → length xs ≤ length f + k
      → spliced blank l i old xs live ≡ (a ++ (xs ++ b)) ++ replicate (k + length f - length xs) blank
  unfolding spliced
  spliced_packed blank l a f b xs i old live k el ei eo ev h =
      let z : List A = replicate k blank in
      let n : ℕ = length xs in
      let s : live ≡ length a + (length f + length b) = ev ∙ simp length-append in
      let laf : length (a ++ f) ≡ i + old = length-append a f ∙ omega arith in
      let m₁ : l ≡ a ++ (f ++ (b ++ z)) = el ∙ simp append_assoc in
      let m₂ : l ≡ (a ++ f) ++ (b ++ z) = m₁ ∙ simp append_assoc in
      let t₃ : take (live - (i + old)) (b ++ z) ≡ b = take_at b z (live - (i + old)) (omega arith) in
      let j : ℕ = max live (live_after old xs live) - live in
      let e : max live (live_after old xs live) ≡ length (a ++ (f ++ b)) + j = omega arith in
      let g : live - live_after old xs live + (k - j) ≡ k + length f - n = rw eo (blanks_after live (length f) n k (omega arith) h) in
      let t₁ : take i l ≡ a = ap (take i) m₁ ∙ take_at a (f ++ (b ++ z)) i (sym ei) in
      let t₂ : drop (i + old) l ≡ b ++ z = ap (drop (i + old)) m₂ ∙ drop_at (a ++ f) (b ++ z) (i + old) laf in
      let t₄ : drop (max live (live_after old xs live)) l ≡ replicate (k - j) blank =
      ap (drop (max live (live_after old xs live))) el ∙ ap (λ (u : ℕ). drop u ((a ++ (f ++ b)) ++ z)) e ∙ drop-append-add (a ++ (f ++ b)) z j ∙ drop-replicate j k blank in
      rw (t₁, t₂, t₃, t₄) (rw (replicate-append-replicate, g) (simp append_assoc))
