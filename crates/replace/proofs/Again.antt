-- References of a list added once more behind it.
-- Assumes nothing.
use Prim.Native.Nat.{ℕ, zero, suc, ◌+◌, ◌-◌, ◌<◌, ◌≤◌}
use mathlib.Core.List.{List, [], ◌∷◌, ◌++◌}
use mathlib.Core.Path.{◌≡◌, refl, sym, ap, subst, ◌∙◌}
use native.Mathlib.Nat.{le_of_suc-le-suc, not-suc-le-zero}
use native.Mathlib.Omega.{arith}
use lib.ListN.{length, take, drop, get_or, length-drop, get_or-append}
use lib.Seq.{take-suc, get_or-take, get_or-drop, length-take-le}
use Rattle.pending.specs.declared.Pend.{Pend}
use Rattle.std.proofs.Common.{None}
use Rattle.pending.specs.Pending.{Pending}
use Rattle.pending.specs.References.{pending_by, pend_of, pendings}
use Rattle.pending.specs.Adding.{Takes, Adds, AddsBy}
use Rattle.pending.proofs.Adding.{pendings_take_length, adds_then, adds_takes}

-- the token of reference i
pendings_at : (s b : List ℕ) (vs : List (List ℕ)) (i : ℕ) (d : Pending) → i < length vs → get_or (pendings s b vs) i d ≡ pending_by s b (pend_of (get_or vs i []))
unfolding pendings
pendings_at s b [] i d h = absurd (not-suc-le-zero h)
pendings_at s b (v ∷ vs) zero d h = refl
pendings_at s b (v ∷ vs) (suc i) d h = pendings_at s b vs i d (le_of_suc-le-suc h)

-- as many tokens as references
pub pendings_length : (s b : List ℕ) (o : List (List ℕ)) (n : ℕ) → n ≤ length o → length (pendings s b (take n o)) ≡ n
pendings_length s b o n h = pendings_take_length s b (take n o) ∙ length-take-le n o h

-- the tokens from `from` to before i of the first n
abbrev pub between : List ℕ → List ℕ → List (List ℕ) → ℕ → ℕ → ℕ → List Pending
between s b o n from i = take (i - from) (drop from (pendings s b (take n o)))

between_length : (s b : List ℕ) (o : List (List ℕ)) (n from i : ℕ) → n ≤ length o → from ≤ i → i ≤ n → length (between s b o n from i) ≡ i - from
between_length s b o n from i h l m =
    length-take-le (i - from) (drop from (pendings s b (take n o)))
    (omega (arith, length-drop from (pendings s b (take n o)), pendings_length s b o n h))

-- those of o from `from` to before i are added once more behind its first n, which is o' then
pub record Again (o o' : List (List ℕ)) (most n from to i k : ℕ) : Type 0 where
  pub same_length : length o' ≡ length o
  pub takes : Takes o' most k
  pub begun : from ≤ i
  pub inside : i - from ≤ to - from
  pub adds : (s b : List ℕ) → Adds s b o o' most n k (between s b o n from i)

module _ {o o' : List (List ℕ)} {most n from to i k : ℕ} (p : Again o o' most n from to i k) where
  module _ (t : Takes o most n) (w : to ≤ n) (h : i < to) where
    -- the reference that is read stands for token i of the first n
    again_token : (s b : List ℕ) (d : Pending) → get_or (pendings s b (take n o)) i d ≡ pending_by s b (pend_of (get_or o' i []))
    again_token s b d =
        let a = p.adds s b in
        let l : i < length (pendings s b (take n o)) = omega (arith, pendings_length s b o n (omega (arith, t.filled, t.lent))) in
        let m : i < k = omega (arith, a.count) in
        let g : k ≤ length o' = omega (arith, p.takes.filled, p.takes.lent) in
        sym (get_or-append (pendings s b (take n o)) (between s b o n from i) d i l)
        ∙ ap (λ (q : List Pending). get_or q i d) (sym a.tokens)
        ∙ pendings_at s b (take k o') i d (omega (arith, length-take-le k o' g))
        ∙ ap (λ (v : List ℕ). pending_by s b (pend_of v)) (get_or-take k o' i [] m)

    again_one : (s b : List ℕ) → between s b o n from (i + 1) ≡ between s b o n from i ++ (pending_by s b (pend_of (get_or o' i [])) ∷ [])
    again_one s b =
        let d : Pending = pending_by s b (pend_of []) in
        let P : List Pending = pendings s b (take n o) in
        let e : i + 1 - from ≡ suc (i - from) = omega (arith, p.begun) in
        let z : from + (i - from) ≡ i = omega (arith, p.begun) in
        let l : i - from < length (drop from P) = omega (arith, p.begun, length-drop from P, pendings_length s b o n (omega (arith, t.filled, t.lent))) in
        ap (λ (j : ℕ). take j (drop from P)) e
        ∙ take-suc (drop from P) (i - from) d l
        ∙ ap (λ (x : Pending). between s b o n from i ++ (x ∷ [])) (get_or-drop from P (i - from) d ∙ ap (λ (j : ℕ). get_or P j d) z ∙ again_token s b d)

    module _ {x : Pend} (z : x ≡ pend_of (get_or o' i [])) {o2 : List (List ℕ)} where
      pub again_next : {j : ℕ} → ((s b : List ℕ) → Adds s b o' o2 most k j (pending_by s b x ∷ [])) → Again o o2 most n from to (i + 1) j
      again_next {j} a = record {
        same_length = (a [] []).same_length ∙ p.same_length;
        takes = adds_takes (a [] []) p.takes;
        begun = omega (arith, p.begun);
        inside = omega (arith, p.begun);
        adds = λ s b.
            subst (λ (ps : List Pending). Adds s b o o2 most n j ps)
            (ap (λ (u : Pend). between s b o n from i ++ (pending_by s b u ∷ [])) z ∙ sym (again_one s b))
            (adds_then (p.adds s b) (a s b));
      }

    -- there is no room for it
    pub again_full : (o2 : List (List ℕ)) → (most < k + 1) × (length o2 ≡ length o') → (s b : List ℕ) → AddsBy None s b o o2 most n (between s b o n from to)
    again_full o2 a s b =
        let l : n ≤ length o = omega (arith, t.filled, t.lent) in
        let u = between_length s b o n from i l p.begun (omega arith) in
        let v = between_length s b o n from to l (omega (arith, p.begun)) w in
        (omega (arith, a.0, (p.adds s b).count, u, v, p.begun), a.1 ∙ p.same_length)
