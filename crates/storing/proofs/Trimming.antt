-- White space at the end of what is stored, dropped byte by byte; what is stored then.
-- Assumes nothing.
use Prim.Native.Nat.{ℕ, suc, ◌+◌, ◌-◌, ◌<◌, ◌≤◌}
use mathlib.Core.Bool.{true, false}
use mathlib.Core.List.{List, [], ◌∷◌, ◌++◌}
use mathlib.Core.Path.{◌≡◌, refl, ap, sym, ◌∙◌}
use native.Mathlib.Nat.{le_refl}
use native.Mathlib.Omega.{arith}
use lib.Dec.{eqb}
use lib.ListN.{length, get_or, take, drop, length-drop}
use lib.Seq.{take-suc, get_or-drop, take-add, take_at, drop_at, length-take-le}
use borrow.Author.Tests.{eq-eqb}
use Rattle.text.specs.Bytes.{part}
use Rattle.text.proofs.Matching.{part_none}
use Rattle.lex.specs.Classes.{is_space}
use Rattle.lex.specs.Tokens.{in_definition, tokens}
use Rattle.storing.specs.Stored.{keep, trim_left, trim_right, pieces, stored}
use Rattle.storing.specs.Writing.{Added, Trimmed, StoredAt}

-- a byte more at the end of what is trimmed
trim_space : (w : List ℕ) (x : ℕ) → is_space x ≡ true → trim_right (w ++ (x ∷ [])) ≡ trim_right w
unfolding trim_right
trim_space [] x e = rw e
trim_space (y ∷ w) x e = ap (keep y) (trim_space w x e)

keep_some : (y : ℕ) (w : List ℕ) (x : ℕ) → keep y (w ++ (x ∷ [])) ≡ y ∷ (w ++ (x ∷ []))
keep_some y [] x = refl
keep_some y (z ∷ w) x = refl

trim_solid : (w : List ℕ) (x : ℕ) → is_space x ≡ false → trim_right (w ++ (x ∷ [])) ≡ w ++ (x ∷ [])
unfolding trim_right
trim_solid [] x e = rw e
trim_solid (y ∷ w) x e = ap (keep y) (trim_solid w x e) ∙ keep_some y w x

-- a part and its last byte
part_last : (o : List ℕ) (from k : ℕ) → from < k → k ≤ length o → part o from k ≡ part o from (k - 1) ++ (get_or o (k - 1) 0 ∷ [])
part_last o from k h l =
    let q : k - from ≡ suc (k - 1 - from) = omega arith in
    let r : from + (k - 1 - from) ≡ k - 1 = omega arith in
    let d : k - 1 - from < length (drop from o) = omega (arith, length-drop from o) in
    rw (q, take-suc (drop from o) (k - 1 - from) 0 d, get_or-drop from o (k - 1 - from) 0, r)

part_length : (o : List ℕ) (from k : ℕ) → k ≤ length o → length (part o from k) ≡ k - from
part_length o from k l = length-take-le (k - from) (drop from o) (omega (arith, length-drop from o))

-- trimmed so far: up to k
pub record Trimming (o : List ℕ) (from n k : ℕ) : Type 0 where
  pub past : from ≤ k
  pub within : k ≤ n
  pub fits : n ≤ length o
  pub alike : trim_right (part o from k) ≡ trim_right (part o from n)

pub trimming_first : (o : List ℕ) (from n : ℕ) → (from ≤ n) × (n ≤ length o) → Trimming o from n n
trimming_first o from n h = record { past = h.0; within = le_refl n; fits = h.1; alike = refl }

module _ {o : List ℕ} {from n k : ℕ} (a : Trimming o from n k) where
  pub trimming_end : k ≤ from → Trimmed o from n from
  unfolding trim_right
  trimming_end h =
      record {
        past = le_refl from;
        within = omega (arith, a.past, a.within);
        bytes = part_none o from from (le_refl from) ∙ rw (part_none o from k h) at a.alike;
      }

  module _ (h : from < k) where
    pub trimming_next : is_space (get_or o (k - 1) 0) ≡ true → Trimming o from n (k - 1)
    trimming_next e =
        record {
          past = omega arith;
          within = omega (arith, a.within);
          fits = a.fits;
          alike = sym (ap trim_right (part_last o from k h (omega (arith, a.within, a.fits))) ∙ trim_space (part o from (k - 1)) (get_or o (k - 1) 0) e) ∙ a.alike;
        }

    pub trimming_solid : is_space (get_or o (k - 1) 0) ≡ false → Trimmed o from n (k - 1 + 1)
    trimming_solid e =
        let q : k - 1 + 1 ≡ k = omega arith in
        let p : part o from k ≡ part o from (k - 1) ++ (get_or o (k - 1) 0 ∷ []) = part_last o from k h (omega (arith, a.within, a.fits)) in
        rw q record {
          past = a.past;
          within = a.within;
          bytes = p ∙ (sym (ap trim_right p ∙ trim_solid (part o from (k - 1)) (get_or o (k - 1) 0) e) ∙ a.alike);
        }

-- what was added from `from` on and then trimmed is what is stored
module _ {s : List ℕ} {i x : ℕ} {o o' : List ℕ} {from k r : ℕ} where
  pub stored_at : from ≤ length o → Added o o' from from k (pieces s x false (tokens in_definition s i)) → Trimmed o' from k r → StoredAt s i x o o' from r
  unfolding stored
  stored_at l a t =
      let w = trim_left (pieces s x false (tokens in_definition s i)) in
      let z : eqb from from ≡ true = eq-eqb from from refl in
      let c : k ≡ from + length w = rw z at a.count in
      let b : take k o' ≡ take from o ++ w = rw z at a.bytes in
      let d : k ≡ from + (k - from) = omega arith in
      let g : take from o' ++ part o' from k ≡ take from o ++ w = sym (ap (λ (n : ℕ). take n o') d ∙ take-add from (k - from) o') ∙ b in
      let u : length (take from o') ≡ from = length-take-le from o' (omega (arith, a.same_length)) in
      let v : length (take from o) ≡ from = length-take-le from o l in
      let f : take from o' ≡ take from o = sym (take_at (take from o') (part o' from k) from u) ∙ (ap (take from) g ∙ take_at (take from o) w from v) in
      let e : part o' from k ≡ w = sym (drop_at (take from o') (part o' from k) from u) ∙ (ap (drop from) g ∙ drop_at (take from o) w from v) in
      let p : part o' from r ≡ trim_right w = t.bytes ∙ ap trim_right e in
      let y : r ≡ from + (r - from) = omega (arith, t.past) in
      let n : length (part o' from r) ≡ r - from = part_length o' from r (omega (arith, t.within, a.fits, a.same_length)) in
      record {
        count = omega (arith, t.past, ap length p);
        fits = omega (arith, t.within, a.fits);
        bytes = ap (λ (n : ℕ). take n o') y ∙ (take-add from (r - from) o' ∙ cc);
      }
