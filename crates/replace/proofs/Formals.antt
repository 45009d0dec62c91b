-- Formals read in the macro bytes, one at a time: how many arguments they accept, and which has a name.
-- Assumes nothing.
use Prim.Native.Nat.{ℕ, zero, suc, ◌+◌, ◌-◌, ◌*◌, ◌<◌, ◌≤◌}
use mathlib.Core.Bool.{Bool, true, false, ◌&&◌}
use mathlib.Core.Option.{Option, none, some}
use mathlib.Core.List.{List, [], ◌∷◌}
use mathlib.Core.Path.{◌≡◌, refl, sym, ap, ◌∙◌}
use native.Mathlib.Nat.{le_of_suc-le-suc, not-suc-le-zero}
use native.Mathlib.Numerals.{add-one}
use native.Mathlib.Omega.{arith}
use lib.Dec.{eqb, leb}
use borrow.Author.Tests.{leb-true, eqb-true, le-leb, eq-eqb}
use lib.ListN.{length, drop, get_or, drop_of_length-le}
use lib.Seq.{drop-cons}
use Rattle.text.specs.Bytes.{same}
use Rattle.lex.proofs.Tests.{and_left, and_right, true_false}
use Rattle.definition.specs.Definitions.{Parameter, parameter}
use Rattle.form.specs.Forms.{parameter_form, parameter_forms}
use Rattle.genuine.specs.Layout.{mark_at, formal_name, formal_end, formal_default}
use Rattle.genuine.proofs.Lying.{Lies, lies_front, lies_back}
use Rattle.genuine.proofs.Formals.{Read, read, mark_of, bytes_of, parameter-form}
use Rattle.replace.specs.declared.Which.{Which}
use Rattle.replace.specs.Replacing.{enough}
use Rattle.replace.specs.Placing.{FormalsAt, formal_index, WhichIs}

-- ---- one formal

-- what is read of the formal whose form starts at i, and the formals behind it
pub record Front (b : List ℕ) (i : ℕ) (f : List ℕ) (d : Option (List ℕ)) (fs : List Parameter) : Type 0 where
  pub name : formal_name b i ≡ f
  pub mark : get_or b (mark_at b i) 0 ≡ mark_of d
  pub default : formal_default b i ≡ bytes_of d
  pub rest : FormalsAt b (formal_end b i) fs

pub front : (b : List ℕ) (i : ℕ) (f : List ℕ) (d : Option (List ℕ)) (fs : List Parameter) → FormalsAt b i (parameter f d ∷ fs) → Front b i f d fs
unfolding parameter_forms
front b i f d fs h =
    let p : List ℕ = parameter_form (parameter f d) in
    let e = parameter-form f d in
    let l : Lies b i (parameter_forms (parameter f d ∷ fs)) = record { fits = h.fits; bytes = h.bytes } in
    let a : Lies b i p = lies_front p (parameter_forms fs) l in
    let r : Read b i f (mark_of d) (bytes_of d) = read b i f (mark_of d) (bytes_of d) h.small (rw e at a) in
    let k : formal_end b i ≡ i + length p = r.end ∙ ap (λ (x : List ℕ). i + length x) (sym e) in
    let g : Lies b (formal_end b i) (parameter_forms fs) = lies_back p (parameter_forms fs) l k in
    record {
      name = r.name;
      mark = r.mark;
      default = r.default;
      rest = record { small = h.small; fits = g.fits; bytes = g.bytes };
    }

-- formal k of fs, whose form starts at i
pub record Next (b : List ℕ) (i k : ℕ) (fs : List Parameter) : Type 0 where
  pub name : List ℕ
  pub default : Option (List ℕ)
  pub list : drop k fs ≡ parameter name default ∷ drop (k + 1) fs
  pub front : Front b i name default (drop (k + 1) fs)

pub next : (b : List ℕ) (i k : ℕ) (fs : List Parameter) → FormalsAt b i (drop k fs) → k < length fs → Next b i k fs
next b i k fs h l = go (get_or fs k (parameter [] none)) refl
  where
    go : (p : Parameter) → get_or fs k (parameter [] none) ≡ p → Next b i k fs
    go (parameter f d) e =
        let q : drop k fs ≡ parameter f d ∷ drop (k + 1) fs = rw (drop-cons fs k (parameter [] none) l, e, add-one) in
        record { name = f; default = d; list = q; front = front b i f d (drop (k + 1) fs) (rw q at h) }

-- ---- how many arguments are accepted

enough_many : (fs : List Parameter) (n : ℕ) → length fs < n → enough fs n ≡ false
unfolding enough
enough_many [] zero h = absurd (not-suc-le-zero h)
enough_many [] (suc n) h = refl
enough_many (f ∷ fs) zero h = absurd (not-suc-le-zero h)
enough_many (f ∷ fs) (suc n) h = enough_many fs n (le_of_suc-le-suc h)

-- past a formal with an argument or a default
enough_past : (f : List ℕ) (d : Option (List ℕ)) (fs : List Parameter) (n : ℕ) → (n ≡ 0 → mark_of d ≡ 0 → ⊥)
    → enough (parameter f d ∷ fs) n ≡ enough fs (n - 1)
unfolding enough
enough_past f none fs zero h = absurd (h refl refl)
enough_past f (some d) fs zero h = refl
enough_past f d fs (suc n) h = let e : suc n - 1 ≡ n = omega arith in rw e

enough_short : (f : List ℕ) (d : Option (List ℕ)) (fs : List Parameter) (n : ℕ) → n ≡ 0 → mark_of d ≡ 0 → enough (parameter f d ∷ fs) n ≡ false
unfolding enough
enough_short f none fs n e q = rw e
enough_short f (some d) fs n e q = absurd (omega arith)

-- the first k formals are passed, and the next starts at i
pub record Passed (b : List ℕ) (at count given i k : ℕ) : Type 0 where
  pub moved : i ≤ at + 131075 * k
  pub goes : (fs : List Parameter) → FormalsAt b at fs → count ≡ length fs
      → FormalsAt b i (drop k fs) × (enough fs given ≡ enough (drop k fs) (given - k))

module _ (b : List ℕ) (at count given : ℕ) where
  pub too_many : count < given → (fs : List Parameter) → FormalsAt b at fs → count ≡ length fs → false ≡ enough fs given
  too_many l fs h e = sym (enough_many fs given (omega arith))

module _ {b : List ℕ} {at count given i k : ℕ} (p : Passed b at count given i k) where
  pub passed_all : given ≤ count → count ≤ k → (fs : List Parameter) → FormalsAt b at fs → count ≡ length fs → true ≡ enough fs given
  unfolding enough
  passed_all g l fs h e =
      let z : given - k ≡ 0 = omega arith in
      let q : drop k fs ≡ [] = drop_of_length-le fs {i = k} (omega arith) in
      sym ((p.goes fs h e).1 ∙ rw (q, z))

  module _ (l : k < count) {m : ℕ} (n : (m ≡ mark_at b i) × (m ≤ i + 65537)) {x : ℕ} (r : x ≡ get_or b m 0) where
    mark_read : x ≡ get_or b (mark_at b i) 0
    mark_read = r ∙ ap (λ (j : ℕ). get_or b j 0) n.0

    pub passed_short : (leb given k && eqb x 0) ≡ true → (fs : List Parameter) → FormalsAt b at fs → count ≡ length fs → false ≡ enough fs given
    passed_short g fs h e =
        let a : given ≤ k = leb-true given k (and_left (leb given k) (eqb x 0) g) in
        let z : x ≡ 0 = eqb-true x 0 (and_right (leb given k) (eqb x 0) g) in
        let t = p.goes fs h e in
        let f : Next b i k fs = next b i k fs t.0 (omega arith) in
        sym (t.1 ∙ ap (λ (r : List Parameter). enough r (given - k)) f.list
        ∙ enough_short f.name f.default (drop (k + 1) fs) (given - k) (omega arith) (sym f.front.mark ∙ sym mark_read ∙ z))

    pub passed_next : (leb given k && eqb x 0) ≡ false → {j : ℕ} → (j ≡ formal_end b i) × (j ≤ i + 131075) → Passed b at count given j (k + 1)
    passed_next g {j} u = record {
      moved = omega (arith, p.moved);
      goes = λ fs h e.
          let t = p.goes fs h e in
          let f : Next b i k fs = next b i k fs t.0 (omega arith) in
          let w : given - k - 1 ≡ given - (k + 1) = omega arith in (
            rw u.0 f.front.rest,
            t.1 ∙ ap (λ (r : List Parameter). enough r (given - k)) f.list
                ∙ enough_past f.name f.default (drop (k + 1) fs) (given - k) (λ y z. true_false (leb given k && eqb x 0) (rw (le-leb given k (omega arith), eq-eqb x 0 (mark_read ∙ f.front.mark ∙ z))) g)
                ∙ ap (enough (drop (k + 1) fs)) w,
          );
    }

-- ---- which formal has a name

-- none of the first k formals has the name w, and the next starts at i
pub record Sought (b w : List ℕ) (at count i k : ℕ) : Type 0 where
  pub moved : i ≤ at + 131075 * k
  pub few : k ≤ count
  pub goes : (fs : List Parameter) → FormalsAt b at fs → count ≡ length fs
      → FormalsAt b i (drop k fs) × (formal_index w fs ≡ k + formal_index w (drop k fs))

-- what is answered
abbrev pub Answers : List ℕ → List ℕ → ℕ → ℕ → Which → Type 0
Answers b w at count r =
    (r.number ≤ count) × (r.at ≤ 17179869184)
    × ((fs : List Parameter) → FormalsAt b at fs → count ≡ length fs → WhichIs b fs w r)

module _ {b w : List ℕ} {at count i k : ℕ} (p : Sought b w at count i k) where
  pub sought_out : count ≤ 255 → at ≤ 8589934592 → count ≤ k → Answers b w at count (record { number = count; at = i })
  unfolding formal_index
  sought_out c a l = (
    omega arith,
    omega (arith, p.moved, p.few),
    λ fs h e.
        let q : drop k fs ≡ [] = drop_of_length-le fs {i = k} (omega arith) in
        let z : formal_index w (drop k fs) ≡ 0 = rw q in
        record { number_is = omega (arith, (p.goes fs h e).1, p.few); there = λ m. absurd (omega arith) },
  )

  module _ (l : k < count) {v : List ℕ} (n : v ≡ formal_name b i) {t : Bool} (r : t ≡ same w v) where
    same_read : t ≡ same w (formal_name b i)
    same_read = r ∙ ap (same w) n

    pub sought_hit : count ≤ 255 → at ≤ 8589934592 → t ≡ true → Answers b w at count (record { number = k; at = i })
    unfolding formal_index
    sought_hit c a y = (
      omega arith,
      omega (arith, p.moved),
      λ fs h e.
          let g = p.goes fs h e in
          let f : Next b i k fs = next b i k fs g.0 (omega arith) in
          let s : same w f.name ≡ true = ap (same w) (sym f.front.name) ∙ sym same_read ∙ y in
          let z : formal_index w (drop k fs) ≡ 0 = ap (formal_index w) f.list ∙ rw s in
          record { number_is = omega (arith, g.1); there = λ m. g.0 },
    )

    pub sought_next : t ≡ false → {j : ℕ} → (j ≡ formal_end b i) × (j ≤ i + 131075) → Sought b w at count j (k + 1)
    unfolding formal_index
    sought_next y {j} u = record {
      moved = omega (arith, p.moved);
      few = omega arith;
      goes = λ fs h e.
          let g = p.goes fs h e in
          let f : Next b i k fs = next b i k fs g.0 (omega arith) in
          let s : same w f.name ≡ false = ap (same w) (sym f.front.name) ∙ sym same_read ∙ y in
          let z : formal_index w (drop k fs) ≡ suc (formal_index w (drop (k + 1) fs)) = ap (formal_index w) f.list ∙ rw s in
          (rw u.0 f.front.rest, omega (arith, g.1));
    }
