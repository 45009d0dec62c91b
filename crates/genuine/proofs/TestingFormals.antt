-- One formal in the bytes of a store, and the formals of a macro, test by test.
-- Assumes nothing.
use Prim.Native.Nat.{ℕ, zero, suc, ◌+◌, ◌-◌, ◌≤◌, ◌<◌}
use mathlib.Core.Bool.{Bool, true, false, not, ◌&&◌}
use mathlib.Core.List.{List}
use mathlib.Core.Path.{◌≡◌, refl, sym, ap, ◌∙◌}
use native.Mathlib.Nat.{not-suc-le-zero}
use native.Mathlib.Omega.{arith}
use lib.Dec.{eqb, leb}
use lib.ListN.{length, drop, get_or, length-take}
use borrow.Author.Tests.{eq-eqb, ne_eqb, le-leb, lt-leb, leb-true}
use Rattle.text.specs.Bytes.{same, part, two_at}
use Rattle.genuine.specs.Fitness.{fit_formal, fit_stored}
use Rattle.genuine.specs.Layout.{mark_at, formal_name, formal_end, formal_default, default_fits, named_from, formal_fits, formals_fit}
use Rattle.genuine.proofs.Testing.{no, yes}

-- where a formal ends, and its name, by where its mark stands
module _ (b : List ℕ) (i : ℕ) {m : ℕ} (p : (m ≡ mark_at b i) × (m ≤ i + 65537)) where
  pub name_to : {w : List ℕ} → w ≡ part b (i + 2) m → w ≡ formal_name b i
  name_to e = e ∙ ap (part b (i + 2)) p.0

  module _ {n : ℕ} (q : (n ≡ two_at b (m + 1)) × (n ≤ 65535)) where
    end_by : m + 3 + n ≡ formal_end b i
    end_by = ap (λ (k : ℕ). m + 3 + k) q.0 ∙ ap (λ (k : ℕ). k + 3 + two_at b (k + 1)) p.0

    pub end_at : (m + 3 + n ≡ formal_end b i) × (m + 3 + n ≤ i + 131075)
    end_at = (end_by, omega arith)

    -- the bytes of its default
    pub default_short : {w : List ℕ} → w ≡ part b (m + 3) (m + 3 + n) → length w ≤ 65535
    default_short e = let l = length-take (m + 3 + n - (m + 3)) (drop (m + 3) b) in omega (arith, ap length e)

    module _ {x : ℕ} (e : x ≡ get_or b m 0) where
      mark_is : x ≡ get_or b (mark_at b i) 0
      mark_is = e ∙ ap (λ (k : ℕ). get_or b k 0) p.0

      pub default_none : x ≡ 0 → eqb n 0 ≡ default_fits b i
      unfolding default_fits
      default_none z =
          let t : n ≡ two_at b (mark_at b i + 1) = q.0 ∙ ap (λ (k : ℕ). two_at b (k + 1)) p.0 in
          rw (eq-eqb _ _ (sym mark_is ∙ z)) (ap (λ (k : ℕ). eqb k 0) t)

      module _ (z : x ≡ 0 → ⊥) {y : ℕ} (f : y ≡ get_or b m 0) where
        pub default_odd : (y ≡ 1 → ⊥) → false ≡ default_fits b i
        unfolding default_fits
        default_odd o = rw (ne_eqb _ _ (λ h. z (mark_is ∙ h)), ne_eqb _ _ (λ h. o (f ∙ sym e ∙ mark_is ∙ h)))

        pub default_by : y ≡ 1 → {w : List ℕ} → w ≡ part b (m + 3) (m + 3 + n) → {r : Bool} → r ≡ fit_stored false w → r ≡ default_fits b i
        unfolding default_fits
        default_by o g h =
            let d : part b (m + 3) (m + 3 + n) ≡ formal_default b i = ap (part b (m + 3)) end_by ∙ ap (λ (k : ℕ). part b (k + 3) (formal_end b i)) p.0 in
            rw (ne_eqb _ _ (λ j. z (mark_is ∙ j)), eq-eqb _ _ (sym mark_is ∙ e ∙ sym f ∙ o)) (h ∙ ap (fit_stored false) (g ∙ d))

-- a formal of that name
module _ (b : List ℕ) (i : ℕ) (w : List ℕ) where
  pub named_none : (c : ℕ) → c ≤ 0 → false ≡ named_from c b i w
  unfolding named_from
  named_none zero h = refl
  named_none (suc c) h = absurd (not-suc-le-zero h)

  module _ {v : List ℕ} (e : v ≡ formal_name b i) {t : Bool} (f : t ≡ same w v) where
    pub named_hit : (c : ℕ) → 0 < c → t ≡ true → true ≡ named_from c b i w
    unfolding named_from
    named_hit zero h z = absurd (not-suc-le-zero h)
    named_hit (suc c) h z = rw (sym (ap (same w) e) ∙ sym f ∙ z)

    pub named_next : (c : ℕ) → 0 < c → t ≡ false → {k : ℕ} → (k ≡ formal_end b i) × (k ≤ i + 131075) → named_from (c - 1) b k w ≡ named_from c b i w
    unfolding named_from
    named_next zero h z q = absurd (not-suc-le-zero h)
    named_next (suc c) h z {k} q =
        let s : suc c - 1 ≡ c = omega arith in
        rw (sym (ap (same w) e) ∙ sym f ∙ z, s) (ap (λ (x : ℕ). named_from c b x w) q.0)

-- one formal with c behind it
module _ (c : ℕ) (b : List ℕ) (i end : ℕ) where
  within : formal_fits c b i end ≡ true → formal_end b i ≤ end
  unfolding formal_fits
  within e = go (leb (formal_end b i) end) refl e
    where
      go : (t : Bool) → leb (formal_end b i) end ≡ t → (t && (fit_formal (formal_name b i) && (default_fits b i && not (named_from c b (formal_end b i) (formal_name b i))))) ≡ true → formal_end b i ≤ end
      go true q h = leb-true (formal_end b i) end q
      go false q h = absurd (let z : ◌≡◌ {A = ℕ} 0 1 = cc in omega arith)

  pub fits_within : {t : Bool} → t ≡ formal_fits c b i end → not t ≡ false → {k : ℕ} → (k ≡ formal_end b i) × (k ≤ i + 131075) → k ≤ end
  fits_within e y q = rw q.0 (within (yes e y))

  module _ {e : ℕ} (p : (e ≡ formal_end b i) × (e ≤ i + 131075)) where
    pub fits_over : end < e → false ≡ formal_fits c b i end
    unfolding formal_fits
    fits_over h = rw (sym (ap (λ (k : ℕ). leb k end) p.0) ∙ lt-leb e end h)

    module _ (h : e ≤ end) {w : List ℕ} (n : w ≡ formal_name b i) {f : Bool} (t : f ≡ fit_formal w) where
      inside : leb (formal_end b i) end ≡ true
      inside = sym (ap (λ (k : ℕ). leb k end) p.0) ∙ le-leb e end h

      pub fits_misnamed : not f ≡ true → false ≡ formal_fits c b i end
      unfolding formal_fits
      fits_misnamed k = rw (inside, no (t ∙ ap fit_formal n) k)

      module _ (y : not f ≡ false) {d : Bool} (u : d ≡ default_fits b i) where
        pub fits_unset : not d ≡ true → false ≡ formal_fits c b i end
        unfolding formal_fits
        fits_unset k = rw (inside, yes (t ∙ ap fit_formal n) y, no u k)

        pub fits_by : not d ≡ false → {r : Bool} → r ≡ named_from c b e w → not r ≡ formal_fits c b i end
        unfolding formal_fits
        fits_by k g = rw (inside, yes (t ∙ ap fit_formal n) y, yes u k) (ap not (g ∙ ap (λ (x : ℕ). named_from c b x w) p.0 ∙ ap (named_from c b (formal_end b i)) n))

-- all formals of a macro
module _ (b : List ℕ) (i end : ℕ) where
  pub formals_end : (c : ℕ) → c ≤ 0 → eqb i end ≡ formals_fit c b i end
  unfolding formals_fit
  formals_end zero h = refl
  formals_end (suc c) h = absurd (not-suc-le-zero h)

  pub formals_no : (c : ℕ) → 0 < c → {t : Bool} → t ≡ formal_fits (c - 1) b i end → not t ≡ true → false ≡ formals_fit c b i end
  unfolding formals_fit
  formals_no zero h e n = absurd (not-suc-le-zero h)
  formals_no (suc c) h e n =
      let s : suc c - 1 ≡ c = omega arith in
      rw (sym (ap (λ (k : ℕ). formal_fits k b i end) s) ∙ no e n)

  pub formals_next : (c : ℕ) → 0 < c → {t : Bool} → t ≡ formal_fits (c - 1) b i end → not t ≡ false → {k : ℕ} → (k ≡ formal_end b i) × (k ≤ i + 131075) → formals_fit (c - 1) b k end ≡ formals_fit c b i end
  unfolding formals_fit
  formals_next zero h e y q = absurd (not-suc-le-zero h)
  formals_next (suc c) h e y q =
      let s : suc c - 1 ≡ c = omega arith in
      rw (sym (ap (λ (k : ℕ). formal_fits k b i end) s) ∙ yes e y, s) (ap (λ (x : ℕ). formals_fit c b x end) q.0)
