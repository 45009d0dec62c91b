-- What is put in place of a formal: the tokens of its default, or its argument.
-- Assumes nothing.
use Prim.Native.Nat.{ℕ, zero, suc, ◌+◌, ◌-◌, ◌<◌, ◌≤◌, zero-le}
use mathlib.Core.Bool.{and-false}
use mathlib.Core.Option.{Option, none, some}
use mathlib.Core.List.{List, [], ◌∷◌, ◌++◌, append_assoc, append-nil}
use mathlib.Core.Path.{◌≡◌, refl, sym, ap, ◌∙◌, subst}
use native.Mathlib.Nat.{le_of_suc-le-suc, not-suc-le-zero}
use native.Mathlib.Omega.{arith}
use lib.ListN.{length, take, drop, get_or, length-take, length-drop, get_or-eq_default}
use lib.Seq.{drop-cons, take-nil, take-take, drop-drop}
use Rattle.text.specs.Bytes.{part}
use Rattle.lex.specs.Tokens.{in_file, token_at, tokens}
use Rattle.lex.specs.declared.Mode.{Mode}
use Rattle.lex.specs.declared.Token.{Token}
use Rattle.lex.proofs.Listing.{file-tokens, tokens_out}
use Rattle.lex.proofs.Progress.{token-at, token_ends, token_within, token_from_end}
use Rattle.sets.specs.Sets.{members}
use Rattle.sets.specs.declared.MacroSet.{MacroSet}
use Rattle.pending.specs.Pending.{Pending, text_token, text_tokens}
use Rattle.pending.specs.declared.Pend.{Pend}
use Rattle.std.proofs.Common.{Option as Opt, None}
use Rattle.pending.specs.References.{part_in, raw_of, pending_by}
use Rattle.pending.specs.Sources.{Spans}
use Rattle.arguments.specs.Ranges.{Ranged}
use Rattle.pending.specs.Adding.{Takes, Adds, AddsBy}
use Rattle.pending.proofs.Adding.{adds_none, adds_then, adds_by_then, adds_takes, adds_full_behind}
use Rattle.definition.specs.Definitions.{Parameter, parameter}
use Rattle.genuine.specs.Layout.{mark_at, formal_end}
use Rattle.genuine.proofs.Formals.{bytes_of}
use Rattle.replace.specs.Tidying.{tidy, tidy_all}
use Rattle.replace.specs.Replacing.{fallback, or_else}
use Rattle.replace.specs.Placing.{FormalsAt, stored_ref}
use Rattle.replace.proofs.Formals.{front}

-- ---- parts of a part

drop_take : {A : Type 0} (i m : ℕ) (d : List A) → drop i (take m d) ≡ take (m - i) (drop i d)
drop_take zero m d = let e : m - 0 ≡ m = omega arith in rw e
drop_take (suc i) zero d = let e : 0 - suc i ≡ 0 = omega arith in rw e
drop_take (suc i) (suc m) [] = sym (take-nil (suc m - suc i))
drop_take (suc i) (suc m) (x ∷ d) = let e : suc m - suc i ≡ m - i = omega arith in rw e (drop_take i m d)

take_own : {A : Type 0} (n : ℕ) (d : List A) → take (length (take n d)) d ≡ take n d
take_own zero d = refl
take_own (suc n) [] = refl
take_own (suc n) (x ∷ d) = ap (λ (l : List _). x ∷ l) (take_own n d)

-- a part by its own length
pub part_own : (b w : List ℕ) (i e : ℕ) → w ≡ part b i e → w ≡ part b i (i + length w)
part_own b w i e h =
    let z : i + length w - i ≡ length (take (e - i) (drop i b)) = omega (arith, ap length h) in
    h ∙ sym (ap (λ (n : ℕ). take n (drop i b)) z ∙ take_own (e - i) (drop i b))

part_part : (b w : List ℕ) (base i j : ℕ) → w ≡ part b base (base + length w) → i ≤ j → j ≤ length w → part b (base + i) (base + j) ≡ part w i j
part_part b w base i j h l m =
    let n : ℕ = base + length w - base in
    let e : base + j - (base + i) ≡ j - i = omega arith in
    ap (λ (k : ℕ). take k (drop (base + i) b)) e
    ∙ sym (ap (λ (v : List ℕ). take (j - i) (drop i v)) h
    ∙ ap (take (j - i)) (drop_take i n (drop base b) ∙ ap (take (n - i)) (drop-drop i base b))
    ∙ take-take (j - i) (n - i) (drop (base + i) b) (omega arith))

-- the token that the reference of a token of a part of the macro bytes stands for
pub stored_token : (s b w : List ℕ) (base : ℕ) (t : Token) (set : MacroSet) → w ≡ part b base (base + length w) → t.at ≤ t.end → t.from ≤ t.end → t.end ≤ length w
    → pending_by s b (stored_ref base t set) ≡ text_token w (members set) t
unfolding pending_by raw_of part_in
stored_token s b w base t set h l m n =
    rw (and-false, part_part b w base t.at t.end h l n, part_part b w base t.from t.end h m n)

-- ---- the tokens of a default

-- those of the default w up to i are added
pub record Copied (s b w : List ℕ) (set : MacroSet) (o o' : List (List ℕ)) (most n i k : ℕ) : Type 0 where
  pub done : List Pending
  pub adds : Adds s b o o' most n k done
  pub list : text_tokens w (members set) (tokens in_file w 0) ≡ done ++ text_tokens w (members set) (tokens in_file w i)

-- of the default w, from `from` to before `to` of the macro bytes
pub record Copying (b : List ℕ) (from to : ℕ) (set : MacroSet) (o : List (List ℕ)) (most n : ℕ) (w : List ℕ) (o' : List (List ℕ)) (i k : ℕ) : Type 0 where
  pub is_part : w ≡ part b from to
  pub takes : Takes o' most k
  pub same_length : length o' ≡ length o
  pub goes : (s : List ℕ) → Copied s b w set o o' most n i k

module _ {b : List ℕ} {from to : ℕ} {set : MacroSet} {o : List (List ℕ)} {most n : ℕ} {w : List ℕ} {o' : List (List ℕ)} {i k : ℕ}
    (p : Copying b from to set o most n w o' i k) where
  -- all are added
  pub copy_all : length w ≤ i → (s : List ℕ) → Adds s b o o' most n k (text_tokens (part b from to) (members set) (tokens in_file (part b from to) 0))
  unfolding text_tokens
  copy_all l s =
      let c = p.goes s in
      let e : text_tokens w (members set) (tokens in_file w 0) ≡ c.done = c.list ∙ rw (tokens_out in_file w i l) (append-nil c.done) in
      rw (sym p.is_part, e) c.adds

  module _ (l : i < length w) {m : Mode} (f : m ≡ in_file) {t : Token} (g : t ≡ token_at m w i) where
    token_is : t ≡ token_at in_file w i
    token_is = g ∙ ap (λ (m : Mode). token_at m w i) f

    starts : t.at ≡ i
    starts = ap (λ (t : Token). t.at) token_is ∙ token-at in_file w i

    ends : i < t.end
    ends = rw token_is (token_ends in_file w i l)

    within : t.end ≤ length w
    within = rw token_is (token_within in_file w i l)

    from_end : t.from ≤ t.end
    from_end = rw token_is (token_from_end in_file w i l)

    pub copy_less : length w - t.end < length w - i
    copy_less = let e : i < t.end = ends in omega arith

    pub ref_small : length b ≤ 65536 → (from ≤ 17179869184) × (t.at ≤ 17179869184) × (t.from ≤ 17179869184) × (t.end ≤ 17179869184)
    ref_small h =
        let a : t.at ≡ i = starts in
        let e : t.end ≤ length w = within in
        let r : t.from ≤ t.end = from_end in
        let u : length w ≡ length (take (to - from) (drop from b)) = ap length p.is_part in
        let v = length-take (to - from) (drop from b) in
        let x = length-drop from b in
        omega arith

    more : text_tokens w (members set) (tokens in_file w i) ≡ text_token w (members set) t ∷ text_tokens w (members set) (tokens in_file w t.end)
    unfolding text_tokens
    more = rw token_is (ap (text_tokens w (members set)) (file-tokens w i l))

    module _ {x : Pend} (z : x ≡ stored_ref from t set) where
      token_by : (s : List ℕ) → pending_by s b x ≡ text_token w (members set) t
      token_by s =
          let a : t.at ≡ i = starts in
          let e : i < t.end = ends in
          ap (pending_by s b) z ∙ stored_token s b w from t set (part_own b w from to p.is_part) (omega arith) from_end within

      module _ {o2 : List (List ℕ)} where
        pub copy_next : {j : ℕ} → ((s b : List ℕ) → Adds s b o' o2 most k j (pending_by s b x ∷ [])) → Copying b from to set o most n w o2 t.end j
        copy_next {j} y =
            let a : (s : List ℕ) → Adds s b o' o2 most k j (text_token w (members set) t ∷ []) = λ s. subst (λ (u : Pending). Adds s b o' o2 most k j (u ∷ [])) (token_by s) (y s b) in
            record {
              is_part = p.is_part;
              takes = adds_takes (a []) p.takes;
              same_length = (a []).same_length ∙ p.same_length;
              goes = λ s.
                  let c = p.goes s in
                  record {
                    done = c.done ++ (text_token w (members set) t ∷ []);
                    adds = adds_then c.adds (a s);
                    list = c.list ∙ ap (λ (u : List Pending). c.done ++ u) more
                        ∙ sym (append_assoc c.done (text_token w (members set) t ∷ []) (text_tokens w (members set) (tokens in_file w t.end)));
                  };
            }

    pub copy_full : (o2 : List (List ℕ)) → (most < k + 1) × (length o2 ≡ length o') → (s : List ℕ)
        → AddsBy None s b o o2 most n (text_tokens (part b from to) (members set) (tokens in_file (part b from to) 0))
    copy_full o2 a s =
        let c = p.goes s in (
          rw (sym p.is_part, c.list, more) (adds_full_behind c.adds (text_token w (members set) t ∷ []) (text_tokens w (members set) (tokens in_file w t.end)) a.0),
          a.1 ∙ p.same_length,
        )

-- ---- the default of a formal, if it has one

default_tokens : (set : List ℕ) (d : Option (List ℕ)) → text_tokens (bytes_of d) set (tokens in_file (bytes_of d) 0) ≡ fallback set d
unfolding text_tokens
default_tokens set none = rw (tokens_out in_file [] 0 zero-le)
default_tokens set (some d) = refl

module _ (b : List ℕ) (at : ℕ) {m e : ℕ} (g : (m ≡ mark_at b at) × (m ≤ at + 65537)) (h : (e ≡ formal_end b at) × (e ≤ at + 131075)) where
  pub fallback_is : (set : List ℕ) (f : List ℕ) (d : Option (List ℕ)) (fs : List Parameter) → FormalsAt b at (parameter f d ∷ fs)
      → text_tokens (part b (m + 3) e) set (tokens in_file (part b (m + 3) e) 0) ≡ fallback set d
  fallback_is set f d fs k =
      let q : part b (m + 3) e ≡ bytes_of d =
      ap (part b (m + 3)) h.0 ∙ ap (λ (x : ℕ). part b (x + 3) (formal_end b at)) g.0 ∙ (front b at f d fs k).default in
      ap (λ (v : List ℕ). text_tokens v set (tokens in_file v 0)) q ∙ default_tokens set d

-- ---- an argument, if there is one

tidied_length : (xs : List (List Pending)) → length (tidy_all xs) ≡ length xs
unfolding tidy_all
tidied_length [] = refl
tidied_length (a ∷ xs) = ap suc (tidied_length xs)

tidied_none : (xs : List (List Pending)) (k : ℕ) → length xs ≤ k → get_or (tidy_all xs) k [] ≡ []
tidied_none xs k h = get_or-eq_default (tidy_all xs) [] (rw (tidied_length xs) h)

pub tidied_at : (xs : List (List Pending)) (k : ℕ) → k < length xs → get_or (tidy_all xs) k [] ≡ tidy (get_or xs k [])
unfolding tidy_all
tidied_at [] k h = absurd (not-suc-le-zero h)
tidied_at (a ∷ xs) zero h = refl
tidied_at (a ∷ xs) (suc k) h = tidied_at xs k (le_of_suc-le-suc h)

pub any_default : {A : Type 0} (l : List A) (i : ℕ) (d e : A) → i < length l → get_or l i d ≡ get_or l i e
any_default l i d e h = cc (drop-cons l i d h, drop-cons l i e h)

-- where argument k stands
pub ranged_at : {f : ℕ → List Pending} {last : ℕ} (r : List (List ℕ)) (xs : List (List Pending)) → Ranged f last r xs → (k : ℕ) → k < length xs → k < length r
    → Spans f (get_or (get_or r k []) 0 0) (get_or (get_or r k []) 1 0) (get_or xs k []) × (get_or (get_or r k []) 1 0 ≤ last)
ranged_at r xs g k h l = rw (any_default r k [] (0 ∷ 0 ∷ 0 ∷ 0 ∷ []) l) (g k h l)

-- none is given
pub given_none : {s b : List ℕ} {o : List (List ℕ)} {most at : ℕ} (xs : List (List Pending)) (k : ℕ) → Takes o most at → length xs ≤ k
    → Adds s b o o most at at (get_or (tidy_all xs) k [])
given_none {s} {b} {o} {most} {at} xs k t h = rw (tidied_none xs k h) (adds_none s b o most at t.filled)

-- ---- either

pub adds_as : (w : Opt ℕ) (s b : List ℕ) (o o' : List (List ℕ)) (most n : ℕ) {q r : List Pending} → q ≡ r → AddsBy w s b o o' most n q → AddsBy w s b o o' most n r
adds_as w s b o o' most n e h = subst (λ (q : List Pending). AddsBy w s b o o' most n q) e h

-- the argument q was added, or is too long
module _ (s b : List ℕ) (o o1 : List (List ℕ)) (most at : ℕ) (set : List ℕ) (d : Option (List ℕ)) where
  pub else_default : (q : List Pending) {m : ℕ} → Adds s b o o1 most at m q → m ≡ at → (w : Opt ℕ) (o2 : List (List ℕ)) → AddsBy w s b o1 o2 most at (fallback set d)
      → AddsBy w s b o o2 most at (or_else set d q)
  else_default [] a z w o2 y = let c : Adds s b o o1 most at at [] = subst (λ (j : ℕ). Adds s b o o1 most at j []) z a in adds_by_then c w o2 (fallback set d) y
  else_default (p ∷ q) a z w o2 y = absurd (omega (arith, a.count))
