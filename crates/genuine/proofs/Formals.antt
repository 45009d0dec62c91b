-- The formals that the test reads in the bytes are those whose forms lie there, and it accepts them exactly where they are fit.
-- Assumes nothing.
use mathlib.Core.Path.{◌≡◌, refl, sym, ap, ◌∙◌}
use mathlib.Core.Bool.{Bool, true, false, cond, not, ◌&&◌}
use mathlib.Core.Option.{Option, none, some}
use mathlib.Core.List.{List, [], ◌∷◌, ◌++◌}
use Prim.Native.Nat.{ℕ, zero, suc, ◌+◌, ◌-◌, ◌≤◌, ◌<◌}
use native.Mathlib.Omega.{arith}
use borrow.Author.Tests.{leb-true, eqb-true, le-leb, eq-eqb}
use lib.Dec.{leb, eqb}
use lib.ListN.{length, get_or, length-append}
use Rattle.text.specs.Bytes.{part, two_at}
use Rattle.text.proofs.Matching.{part_none}
use Rattle.lex.proofs.Tests.{and_left, and_right}
use Rattle.definition.specs.Definitions.{Parameter, parameter}
use Rattle.form.specs.Forms.{two, sized, parameter_form, parameter_forms}
use Rattle.genuine.specs.Fitness.{fit_formal, fit_stored, fit_default, is_named, fit_parameters}
use Rattle.genuine.specs.Layout.{mark_at, formal_name, formal_end, formal_default, default_fits, named_from, formal_fits, formals_fit}
use Rattle.genuine.proofs.Lying.{Lies, lies_none, lies_front, lies_back, lies_both, lies_part, part_length, part_lies, lies_byte, byte_lies, lies_two, sized_lies}

-- ---- one formal

-- what the test reads at i: the name f, the mark k and the default d
pub record Read (b : List ℕ) (i : ℕ) (f : List ℕ) (k : ℕ) (d : List ℕ) : Type 0 where
  pub name : formal_name b i ≡ f
  pub mark : get_or b (mark_at b i) 0 ≡ k
  pub size : two_at b (mark_at b i + 1) ≡ length d
  pub default : formal_default b i ≡ d
  pub end : formal_end b i ≡ i + length (sized f ++ (k ∷ sized d))

pub read : (b : List ℕ) (i : ℕ) (f : List ℕ) (k : ℕ) (d : List ℕ) → length b ≤ 65536 → Lies b i (sized f ++ (k ∷ sized d)) → Read b i f k d
read b i f k d small h =
    let n : length (sized f ++ (k ∷ sized d)) ≡ length f + 2 + (length d + 3) = length-append (sized f) (k ∷ sized d) ∙ omega arith in
    let hf : Lies b i (sized f) = lies_front (sized f) (k ∷ sized d) h in
    let j : ℕ = i + 2 + length f in
    let hk : Lies b j (k ∷ sized d) = lies_back (sized f) (k ∷ sized d) h (omega arith) in
    let hs : Lies b (j + 1) (sized d) = lies_back (k ∷ []) (sized d) hk refl in
    let hd : Lies b (j + 3) d = lies_back (two (length d)) d hs (omega arith) in
    let t : two_at b i ≡ length f = lies_two (length f) f (omega (arith, h.fits)) hf in
    let m : mark_at b i ≡ j = omega arith in
    let s : two_at b (mark_at b i + 1) ≡ length d = ap (λ (x : ℕ). two_at b (x + 1)) m ∙ lies_two (length d) d (omega (arith, h.fits)) hs in
    let e : formal_end b i ≡ j + 3 + length d = omega arith in
    record {
      name = lies_part (lies_back (two (length f)) f hf refl) (omega arith);
      mark = ap (λ (x : ℕ). get_or b x 0) m ∙ lies_byte k (sized d) hk;
      size = s;
      default = ap (λ (x : ℕ). part b (x + 3) (formal_end b i)) m ∙ lies_part hd e;
      end = omega arith;
    }

formal_lies : (b : List ℕ) (i : ℕ) → ((j : ℕ) → get_or b j 0 < 256) → formal_end b i ≤ length b
    → Lies b i (sized (formal_name b i) ++ (get_or b (mark_at b i) 0 ∷ sized (formal_default b i)))
formal_lies b i s h =
    let f : List ℕ = formal_name b i in
    let d : List ℕ = formal_default b i in
    let m : ℕ = mark_at b i in
    let nf : length f ≡ m - (i + 2) = part_length b (i + 2) m (omega arith) in
    let nd : length d ≡ formal_end b i - (m + 3) = part_length b (m + 3) (formal_end b i) h in
    let hf : Lies b i (sized f) = sized_lies i f s (omega arith) (part_lies (i + 2) m (omega arith) (omega arith)) refl in
    let hd : Lies b (m + 1) (sized d) = sized_lies (m + 1) d s (omega arith) (part_lies (m + 3) (formal_end b i) (omega arith) h) (omega arith) in
    lies_both (sized f) (get_or b m 0 ∷ sized d) hf
    (lies_both (get_or b m 0 ∷ []) (sized d) (byte_lies m (omega arith)) hd refl)
    (omega arith)

-- the mark and the bytes of a default
abbrev pub mark_of : Option (List ℕ) → ℕ
mark_of none = 0
mark_of (some d) = 1

abbrev pub bytes_of : Option (List ℕ) → List ℕ
bytes_of none = []
bytes_of (some d) = d

pub parameter-form : (f : List ℕ) (d : Option (List ℕ)) → parameter_form (parameter f d) ≡ sized f ++ (mark_of d ∷ sized (bytes_of d))
parameter-form f none = refl
parameter-form f (some d) = refl

default-fits : (b : List ℕ) (i : ℕ) (f : List ℕ) (d : Option (List ℕ)) → Read b i f (mark_of d) (bytes_of d) → default_fits b i ≡ fit_default d
unfolding default_fits
default-fits b i f none r = rw (r.mark, r.size)
default-fits b i f (some d) r = rw (r.mark, r.default)

-- what the test reads of a formal whose form lies at i
record Formal (b : List ℕ) (i : ℕ) (f : List ℕ) (d : Option (List ℕ)) : Type 0 where
  name : formal_name b i ≡ f
  default : default_fits b i ≡ fit_default d
  end : formal_end b i ≡ i + length (parameter_form (parameter f d))

formal : (b : List ℕ) (i : ℕ) (f : List ℕ) (d : Option (List ℕ)) → length b ≤ 65536 → Lies b i (parameter_form (parameter f d)) → Formal b i f d
formal b i f d small h =
    let e : parameter_form (parameter f d) ≡ sized f ++ (mark_of d ∷ sized (bytes_of d)) = parameter-form f d in
    let r : Read b i f (mark_of d) (bytes_of d) = read b i f (mark_of d) (bytes_of d) small (rw e at h) in
    record {
      name = r.name;
      default = default-fits b i f d r;
      end = r.end ∙ ap (λ (l : List ℕ). i + length l) (sym e);
    }

-- the default that the test accepts at i
record Given (b : List ℕ) (i : ℕ) : Type 0 where
  default : Option (List ℕ)
  mark : mark_of default ≡ get_or b (mark_at b i) 0
  bytes : bytes_of default ≡ formal_default b i

given : (b : List ℕ) (i : ℕ) → default_fits b i ≡ true → Given b i
unfolding default_fits
given b i h = go (eqb (get_or b (mark_at b i) 0) 0) refl h
  where
    go : (t : Bool) → eqb (get_or b (mark_at b i) 0) 0 ≡ t
        → cond t (eqb (two_at b (mark_at b i + 1)) 0) (eqb (get_or b (mark_at b i) 0) 1 && fit_stored false (formal_default b i)) ≡ true → Given b i
    go true q g =
        let z : two_at b (mark_at b i + 1) ≡ 0 = eqb-true (two_at b (mark_at b i + 1)) 0 g in
        record {
          default = none;
          mark = sym (eqb-true (get_or b (mark_at b i) 0) 0 q);
          bytes = sym (part_none b (mark_at b i + 3) (formal_end b i) (omega arith));
        }
    go false q g = record {
      default = some (formal_default b i);
      mark = sym (eqb-true (get_or b (mark_at b i) 0) 1 (and_left (eqb (get_or b (mark_at b i) 0) 1) (fit_stored false (formal_default b i)) g));
      bytes = refl;
    }

given_lies : (b : List ℕ) (i : ℕ) → ((j : ℕ) → get_or b j 0 < 256) → formal_end b i ≤ length b → (g : Given b i)
    → Lies b i (parameter_form (parameter (formal_name b i) g.default))
given_lies b i s h g = rw (parameter-form (formal_name b i) g.default, g.mark, g.bytes) (formal_lies b i s h)

-- ---- all formals

named : (b : List ℕ) (i : ℕ) (w : List ℕ) (ps : List Parameter) → length b ≤ 65536 → Lies b i (parameter_forms ps) → named_from (length ps) b i w ≡ is_named w ps
unfolding named_from is_named parameter_forms
named b i w [] small h = refl
named b i w (parameter f d ∷ ps) small h =
    let p : List ℕ = parameter_form (parameter f d) in
    let r : Formal b i f d = formal b i f d small (lies_front p (parameter_forms ps) h) in
    rw (r.name, named b (formal_end b i) w ps small (lies_back p (parameter_forms ps) h r.end))

-- where their forms lie at i, the test accepts them exactly if they are fit
pub formals-fit : (b : List ℕ) (i e : ℕ) (ps : List Parameter) → length b ≤ 65536 → Lies b i (parameter_forms ps) → e ≡ i + length (parameter_forms ps)
    → formals_fit (length ps) b i e ≡ fit_parameters ps
unfolding formals_fit formal_fits fit_parameters parameter_forms
formals-fit b i e [] small h q = eq-eqb i e (omega arith)
formals-fit b i e (parameter f d ∷ ps) small h q =
    let p : List ℕ = parameter_form (parameter f d) in
    let r : Formal b i f d = formal b i f d small (lies_front p (parameter_forms ps) h) in
    let n : length (p ++ parameter_forms ps) ≡ length p + length (parameter_forms ps) = length-append p (parameter_forms ps) in
    let g : Lies b (formal_end b i) (parameter_forms ps) = lies_back p (parameter_forms ps) h r.end in
    let l : leb (formal_end b i) e ≡ true = le-leb (formal_end b i) e (omega (arith, r.end)) in
    rw (l, r.name, r.default, named b (formal_end b i) f ps small g, formals-fit b (formal_end b i) e ps small g (omega (arith, r.end)))

-- formals that reach from i to e
pub record Formals (b : List ℕ) (c i e : ℕ) : Type 0 where
  pub parameters : List Parameter
  pub count : length parameters ≡ c
  pub lie : Lies b i (parameter_forms parameters)
  pub end : e ≡ i + length (parameter_forms parameters)

-- what the test accepts are the forms of some
pub formals_read : (b : List ℕ) (c i e : ℕ) → ((j : ℕ) → get_or b j 0 < 256) → length b ≤ 65536 → e ≤ length b → formals_fit c b i e ≡ true → Formals b c i e
unfolding formals_fit formal_fits parameter_forms
formals_read b zero i e s small h t =
    let q : i ≡ e = eqb-true i e t in
    record { parameters = []; count = refl; lie = lies_none i (omega arith); end = omega arith }
formals_read b (suc c) i e s small h t =
    let f : List ℕ = formal_name b i in
    let u : Bool = default_fits b i && not (named_from c b (formal_end b i) f) in
    let ft : formal_fits c b i e ≡ true = and_left (formal_fits c b i e) (formals_fit c b (formal_end b i) e) t in
    let rt : (fit_formal f && u) ≡ true = and_right (leb (formal_end b i) e) (fit_formal f && u) ft in
    let l : formal_end b i ≤ e = leb-true (formal_end b i) e (and_left (leb (formal_end b i) e) (fit_formal f && u) ft) in
    let g : Given b i = given b i (and_left (default_fits b i) (not (named_from c b (formal_end b i) f)) (and_right (fit_formal f) u rt)) in
    let o : Formals b c (formal_end b i) e = formals_read b c (formal_end b i) e s small h (and_right (formal_fits c b i e) (formals_fit c b (formal_end b i) e) t) in
    let p : List ℕ = parameter_form (parameter f g.default) in
    let ps : List ℕ = parameter_forms o.parameters in
    let hp : Lies b i p = given_lies b i s (omega arith) g in
    let r : Formal b i f g.default = formal b i f g.default small hp in
    record {
      parameters = parameter f g.default ∷ o.parameters;
      count = ap suc o.count;
      lie = lies_both p ps hp o.lie r.end;
      end = omega (arith, o.end, r.end, length-append p ps);
    }
