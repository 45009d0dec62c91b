-- Whether the start macros fit, as the code tests it; and each of them defined behind those before it.
-- Assumes nothing.
use mathlib.Core.Path.{◌≡◌, refl, sym, ap, ◌∙◌, subst, subst⁻¹}
use mathlib.Core.Bool.{Bool, true, false, not, ◌&&◌}
use mathlib.Core.List.{List, []}
use Prim.Native.Nat.{ℕ, ◌+◌, ◌≤◌, ◌<◌}
use native.Mathlib.Omega.{arith}
use borrow.Author.Tests.{leb-true, lt-leb, le-leb, not-true, not-false}
use lib.Dec.{leb}
use lib.ListN.{length, take, get_or}
use Rattle.definition.specs.Definitions.{Macro, macro}
use Rattle.store.specs.Stores.{define, fits}
use Rattle.store.specs.Buffers.{Holds, Stored, Defines}
use Rattle.std.proofs.Common.{Option, Some, None}
use Rattle.lex.proofs.Tests.{and_left, and_right}
use Rattle.genuine.proofs.Tests.{and_false}
use Rattle.macros.specs.Looking.{plainly}
use Rattle.macros.specs.Starting.{range_of, all_starts, started, starts_size, starts_fit, Starts}
use Rattle.macros.proofs.Started.{starts_fit_is, fit_starts, front_fits, front_length, front_none, front_next, front_all, start_short}

-- ---- the tests

module _ (s : List ℕ) (vs : List (List ℕ)) (records bytes : ℕ) where
  pub too_many : 256 < length vs → false ≡ starts_fit records bytes s vs
  too_many h =
      let r = leb (length vs) records && leb (starts_size s vs) bytes in
      sym (starts_fit_is s records bytes vs ∙ and_false (all_starts s vs) (leb (length vs) 256 && r) (rw (lt-leb (length vs) 256 h)))

  module _ {b : Bool} (e : b ≡ all_starts s vs) where
    pub ill_named : not b ≡ true → false ≡ starts_fit records bytes s vs
    ill_named a = sym (starts_fit_is s records bytes vs ∙ rw (← e, not-true b a))

    module _ (a : not b ≡ false) (h : length vs ≤ 256) where
      pub few_records : records < length vs → false ≡ starts_fit records bytes s vs
      few_records l = sym (starts_fit_is s records bytes vs ∙ rw (← e, not-false b a, le-leb (length vs) 256 h, lt-leb (length vs) records l))

      pub room_is : length vs ≤ records → {n : ℕ} → n ≡ starts_size s vs → leb n bytes ≡ starts_fit records bytes s vs
      room_is l q =
          ap (λ (x : ℕ). leb x bytes) q
          ∙ sym (starts_fit_is s records bytes vs ∙ rw (← e, not-false b a, le-leb (length vs) 256 h, le-leb (length vs) records l))

-- ---- one after the other

-- the first i of the start macros are defined, n of them; the buffers lent were b₀, r₀ and f₀
pub record Going (s : List ℕ) (vs : List (List ℕ)) (b₀ : List ℕ) (r₀ : List (List ℕ)) (f₀ b : List ℕ) (r : List (List ℕ)) (f : List ℕ) (i n : ℕ) : Type 0 where
  pub place : i ≤ length vs
  pub bytes : length b ≡ length b₀
  pub rows : length r ≡ length r₀
  pub forms : length f ≡ length f₀
  pub holds : Holds (started s (take i vs)) b r n

-- a definition that fits
done : {rl bl : ℕ} (new : List Macro) {ms : List Macro} {b : List ℕ} {r : List (List ℕ)} {d : Option ℕ} → fits rl bl new ≡ true → Defines rl bl new ms b r d
    → (d ≡ Some (length new)) × Holds new b r (length new)
done new f h = (rw f at h.answer, rw f at h.holds)

module _ {s : List ℕ} {vs : List (List ℕ)} {b₀ : List ℕ} {r₀ : List (List ℕ)} {f₀ : List ℕ} (p : Starts s vs b₀ r₀ f₀) where
  pub going_none : Going s vs b₀ r₀ f₀ b₀ r₀ f₀ 0 0
  going_none = record {
    place = omega arith;
    bytes = refl;
    rows = refl;
    forms = refl;
    holds = subst⁻¹ (λ (ms : List Macro). Holds ms b₀ r₀ 0) (front_none s vs) p.none;
  }

  starting : all_starts s vs ≡ true
  starting = fit_starts s (length r₀) (length b₀) vs p.fit

  few : length vs ≤ 256
  few =
      let q = leb (length vs) (length r₀) && leb (starts_size s vs) (length b₀) in
      leb-true (length vs) 256 (and_left (leb (length vs) 256) q (and_right (all_starts s vs) (leb (length vs) 256 && q) (sym (starts_fit_is s (length r₀) (length b₀) vs) ∙ p.fit)))

  module _ {b : List ℕ} {r : List (List ℕ)} {f : List ℕ} {i n : ℕ} (g : Going s vs b₀ r₀ f₀ b r f i n) where
    pub going_all : length vs ≤ i → Holds (started s vs) b r n
    going_all l = subst (λ (ms : List Macro). Holds ms b r n) (front_all s vs i l) g.holds

    -- y: the name of the next
    module _ (l : i < length vs) {x y : List ℕ} (ex : x ≡ range_of s (get_or vs i [])) (ey : y ≡ plainly x) where
      named : y ≡ plainly (range_of s (get_or vs i []))
      named = ey ∙ ap plainly ex

      pub going_needs : (length b ≤ 65536) × (n ≤ 256) × (Stored b r n) × (length y < length f)
      going_needs = (
        omega (arith, p.small, g.bytes),
        omega (arith, few, front_length s i vs starting g.place, g.holds.count),
        record { macros = started s (take i vs); holds = g.holds },
        omega (arith, start_short s vs i l starting, ap length named, p.form_long, g.forms),
      )

      module _ {b' : List ℕ} {r' : List (List ℕ)} {d : Option ℕ}
          (h : (ms : List Macro) → Holds ms b r n → Defines (length r) (length b) (define (macro y [] []) ms) ms b' r' d) where
        next_is : define (macro y [] []) (started s (take i vs)) ≡ started s (take (i + 1) vs)
        next_is = ap (λ (w : List ℕ). define (macro w [] []) (started s (take i vs))) named ∙ sym (front_next s vs i l)

        defined : Defines (length r) (length b) (started s (take (i + 1) vs)) (started s (take i vs)) b' r' d
        defined = subst (λ (ms : List Macro). Defines (length r) (length b) ms (started s (take i vs)) b' r' d) next_is (h (started s (take i vs)) g.holds)

        fit : fits (length r) (length b) (started s (take (i + 1) vs)) ≡ true
        fit = rw (g.rows, g.bytes) (front_fits s (length r₀) (length b₀) vs p.fit (i + 1))

        pub going_next : (k : ℕ) → d ≡ Some k → {f' : List ℕ} → length b' ≡ length b → length r' ≡ length r → length f' ≡ length f → Going s vs b₀ r₀ f₀ b' r' f' (i + 1) k
        going_next k e eb er ef =
            let new = started s (take (i + 1) vs) in
            let q = done new fit defined in
            let a : d ≡ Some (length new) = q.0 in
            let z : length new ≡ k = cc in
            record {
              place = omega arith;
              bytes = eb ∙ g.bytes;
              rows = er ∙ g.rows;
              forms = ef ∙ g.forms;
              holds = subst (λ (j : ℕ). Holds new b' r' j) z q.1;
            }

        pub going_never : d ≡ None → ⊥
        going_never e =
            let a : d ≡ Some (length (started s (take (i + 1) vs))) = (done (started s (take (i + 1) vs)) fit defined).0 in
            let z : ◌≡◌ {A = ℕ} 0 1 = cc in
            omega arith
