-- The entry of one macro, test by test: its record, its name, its formals, its text.
-- Assumes nothing.
use Prim.Native.Nat.{ℕ, ◌+◌, ◌-◌, ◌≤◌, ◌<◌}
use mathlib.Core.Bool.{Bool, true, false, not}
use mathlib.Core.List.{List}
use mathlib.Core.Path.{◌≡◌, sym, ap, ◌∙◌}
use native.Mathlib.Omega.{arith}
use lib.ListN.{length, drop, get_or, length-take, length-drop}
use borrow.Author.Tests.{eq-eqb, ne_eqb, le-leb, lt-leb}
use Rattle.text.specs.Bytes.{part}
use Rattle.text.specs.Order.{order_of}
use Rattle.std.specs.declared.cmp.Ordering.{Ordering}
use Rattle.std.specs.declared.cmp.Ordering.TheVariants.{Less, Equal, Greater}
use Rattle.packed.specs.declared.Record.{Record}
use Rattle.genuine.specs.Fitness.{fit_name, fit_stored}
use Rattle.genuine.specs.Layout.{formals_fit, is_less, name_in, body_fits, entry_fits}
use Rattle.genuine.proofs.Testing.{no, yes}

-- the answers to an order
module _ (w v : List ℕ) {o : Ordering} (e : o ≡ order_of w v) where
  order_told : is_less o ≡ is_less (order_of w v)
  order_told = ap is_less e

  pub order_less : o ≡ Less → true ≡ is_less (order_of w v)
  order_less q = sym (ap is_less q) ∙ order_told

  pub order_equal : o ≡ Equal → false ≡ is_less (order_of w v)
  order_equal q = sym (ap is_less q) ∙ order_told

  pub order_greater : o ≡ Greater → false ≡ is_less (order_of w v)
  order_greater q = sym (ap is_less q) ∙ order_told

-- the bytes behind an entry's name
module _ (b : List ℕ) (r : Record) where
  pub text_short : length b ≤ 65536 → r.start + r.name + 1 ≤ r.text → {w : List ℕ} → w ≡ part b r.text (r.text + r.size) → length w ≤ 65535
  text_short h k e =
      let l = length-take (r.text + r.size - r.text) (drop r.text b) in
      let d = length-drop r.text b in
      omega (arith, ap length e)

  module _ {x : ℕ} (e : x ≡ get_or b (r.start + r.name) 0) where
    pub body_over : 16 < x → false ≡ body_fits b r
    unfolding body_fits
    body_over h = rw (← e, lt-leb x 16 h)

    module _ (h : x ≤ 16) {f : Bool} (t : f ≡ formals_fit x b (r.start + r.name + 1) r.text) where
      pub body_odd : not f ≡ true → false ≡ body_fits b r
      unfolding body_fits
      body_odd n = rw (← e, le-leb x 16 h, no t n)

      pub body_by : not f ≡ false → {w : List ℕ} → w ≡ part b r.text (r.text + r.size) → {a : Bool} → a ≡ fit_stored true w → a ≡ body_fits b r
      unfolding body_fits
      body_by y g q = rw (← e, le-leb x 16 h, yes t y) (q ∙ ap (fit_stored true) g)

-- the whole entry, behind the name v
module _ (b : List ℕ) (at : ℕ) (v : List ℕ) (r : Record) where
  pub entry_apart : (r.start ≡ at → ⊥) → false ≡ entry_fits b at v r
  unfolding entry_fits
  entry_apart h = rw (ne_eqb _ _ h)

  module _ (s : r.start ≡ at) where
    pub entry_over : length b < r.text + r.size → false ≡ entry_fits b at v r
    unfolding entry_fits
    entry_over h = rw (eq-eqb _ _ s, lt-leb _ _ h)

    module _ (h : r.text + r.size ≤ length b) where
      pub entry_cut : r.text < r.start + r.name + 1 → false ≡ entry_fits b at v r
      unfolding entry_fits
      entry_cut k = rw (eq-eqb _ _ s, le-leb _ _ h, lt-leb _ _ k)

      module _ (k : r.start + r.name + 1 ≤ r.text) {w : List ℕ} (e : w ≡ part b r.start (r.start + r.name)) {f : Bool} (t : f ≡ fit_name w) where
        pub entry_misnamed : not f ≡ true → false ≡ entry_fits b at v r
        unfolding entry_fits
        entry_misnamed n = rw (eq-eqb _ _ s, le-leb _ _ h, le-leb _ _ k, no (t ∙ ap fit_name e) n)

        module _ (y : not f ≡ false) {v' : List ℕ} (g : v' ≡ v) {o : Bool} (u : o ≡ is_less (order_of v' w)) where
          order_here : o ≡ is_less (order_of v (name_in b r))
          order_here = u ∙ ap (λ (x : List ℕ). is_less (order_of x w)) g ∙ ap (λ (x : List ℕ). is_less (order_of v x)) e

          pub entry_unordered : not o ≡ true → false ≡ entry_fits b at v r
          unfolding entry_fits
          entry_unordered n = rw (eq-eqb _ _ s, le-leb _ _ h, le-leb _ _ k, yes (t ∙ ap fit_name e) y, no order_here n)

          pub entry_by : not o ≡ false → {a : Bool} → a ≡ body_fits b r → a ≡ entry_fits b at v r
          unfolding entry_fits
          entry_by z q = rw (eq-eqb _ _ s, le-leb _ _ h, le-leb _ _ k, yes (t ∙ ap fit_name e) y, yes order_here z) q
