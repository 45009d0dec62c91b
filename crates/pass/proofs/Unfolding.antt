-- The tokens of a stored text put as references from the end of a list on, the first one last.
-- Assumes nothing.
use Prim.Native.Nat.{ℕ, zero, suc, ◌+◌, ◌-◌, ◌<◌, ◌≤◌}
use mathlib.Core.Bool.{Bool, false}
use mathlib.Core.List.{List, [], ◌∷◌, ◌++◌, append_assoc, append-nil}
use mathlib.Core.Path.{◌≡◌, refl, sym, ap, ap₂, ◌∙◌}
use native.Mathlib.Numerals.{add-one}
use native.Mathlib.Omega.{arith}
use lib.ListN.{length, drop, get_or, set, length-take, length-drop, length-set}
use lib.Seq.{drop-cons, drop-set-lt, get_or-set_same}
use Rattle.text.specs.Bytes.{part}
use Rattle.lex.specs.Tokens.{in_text, between, marks_after, token_at, tokens}
use Rattle.lex.specs.declared.Mode.{Mode}
use Rattle.lex.specs.declared.Token.{Token}
use Rattle.lex.proofs.Listing.{tokens_out}
use Rattle.storing.proofs.Reading.{token_past, text_next as tokens-text}
use Rattle.sets.specs.Sets.{members}
use Rattle.sets.specs.declared.MacroSet.{MacroSet}
use Rattle.packed.specs.declared.Record.{Record}
use Rattle.packed.specs.Records.{Small}
use Rattle.pending.specs.declared.Pend.{Pend}
use Rattle.pending.specs.Pending.{Pending, text_token, text_tokens}
use Rattle.pending.specs.References.{numbers_of, pend_of, pending_by, blank, stacked}
use Rattle.replace.specs.Placing.{stored_ref}
use Rattle.replace.proofs.Texts.{token_inside}
use Rattle.replace.proofs.Values.{part_own, stored_token}
use Rattle.passing.specs.Passing.{tokens_of}
use Rattle.pass.specs.Judging.{Unfolds}

-- a reference in front is the last token
stacked_front : (s b v : List ℕ) (d : List (List ℕ)) (k : ℕ) → stacked s b (v ∷ d) (suc k) ≡ stacked s b d k ++ (pending_by s b (pend_of v) ∷ [])
unfolding stacked
stacked_front s b v d zero = refl
stacked_front s b v d (suc k) = ap (λ (r : List Pending). pending_by s b (pend_of (get_or d k blank)) ∷ r) (stacked_front s b v d k)

-- the list from where one more reference is put
drop_put : (l : List (List ℕ)) (k : ℕ) (v : List ℕ) → k < length l
    → drop (length l - (k + 1)) (set l (length l - (k + 1)) v) ≡ v ∷ drop (length l - k) l
drop_put l k v h =
    let a : ℕ = length l - (k + 1) in
    let i : a < length l = omega arith in
    let e : suc a ≡ length l - k = omega arith in
    drop-cons (set l a v) a blank (omega (arith, length-set l a v))
    ∙ ap₂ (λ (x : List ℕ) (y : List (List ℕ)). x ∷ y) (get_or-set_same l a v blank i) (drop-set-lt (suc a) l a v (omega arith) ∙ ap (λ (n : ℕ). drop n l) e)

-- the tokens of the text w from i on
text_next : (w : List ℕ) (marks : Bool) (i : ℕ) (t : Token) → i < length w → t ≡ token_at (between in_text marks) w i
    → text_tokens w [] (tokens (between in_text marks) w i) ≡ text_token w [] t ∷ text_tokens w [] (tokens (between in_text (marks_after marks t)) w t.end)
unfolding text_tokens
text_next w marks i t h e =
    ap (text_tokens w []) (tokens-text marks (between in_text marks) w i t refl e h)

text_out : (w : List ℕ) (marks : Bool) (i : ℕ) → length w ≤ i → text_tokens w [] (tokens (between in_text marks) w i) ≡ []
unfolding text_tokens
text_out w marks i h = rw (tokens_out (between in_text marks) w i h)

part_short : (b : List ℕ) (i e : ℕ) → length (part b i e) ≤ length b
part_short b i e = rw (length-take, length-drop) (omega arith)

-- the tokens of the text w of q before i are the last k references of l', which was l
pub record Unfolding (b : List ℕ) (q : Record) (l : List (List ℕ)) (w : List ℕ) (l' : List (List ℕ)) (i k : ℕ) (marks : Bool) : Type 0 where
  pub is_part : w ≡ part b q.text (q.text + q.size)
  pub same_length : length l' ≡ length l
  pub passed : k ≤ i
  pub within : i ≤ length w
  pub put : (s : List ℕ) → tokens_of w ≡ stacked s b (drop (length l' - k) l') k ++ text_tokens w [] (tokens (between in_text marks) w i)

pub unfold_none : {b : List ℕ} {q : Record} {l : List (List ℕ)} {w : List ℕ} → w ≡ part b q.text (q.text + q.size) → Unfolding b q l w l 0 0 false
unfolding stacked
unfold_none e = record { is_part = e; same_length = refl; passed = omega arith; within = omega arith; put = λ s. refl }

module _ {b : List ℕ} {q : Record} {l : List (List ℕ)} {w : List ℕ} {l' : List (List ℕ)} {i k : ℕ} {marks : Bool}
    (u : Unfolding b q l w l' i k marks) where
  text_short : length w ≤ length b
  text_short = omega (arith, ap length u.is_part, part_short b q.text (q.text + q.size))

  module _ (h : i < length w) {m : Mode} (f : m ≡ between in_text marks) {t : Token} (g : t ≡ token_at m w i) where
    pub unfold_room : length b ≤ length l → k < length l'
    unfold_room r = omega (arith, text_short, u.passed, u.same_length)

    pub unfold_small : length b ≤ 65536 → Small q → (q.text ≤ 17179869184) × (t.at ≤ 17179869184) × (t.from ≤ 17179869184) × (t.end ≤ 17179869184)
    unfold_small r z = let y = token_inside m w i t g h in omega (arith, text_short, z.text_small)

    pub unfold_less : length w - t.end < length w - i
    unfold_less = omega (arith, token_past m w i t g h)

    -- one more token
    pub unfold_more : length b ≤ length l → {none : MacroSet} → members none ≡ [] → {x : Pend} → x ≡ stored_ref q.text t none → {v : List ℕ} → v ≡ numbers_of x
        → {marks' : Bool} → marks' ≡ marks_after marks t → Unfolding b q l w (set l' (length l' - (k + 1)) v) t.end (k + 1) marks'
    unfold_more r {none} o {x} ex {v} ev {marks'} em =
        let y = token_inside m w i t g h in
        let a : ℕ = length l' - (k + 1) in
        let n : length (set l' a v) ≡ length l' = length-set l' a v in
        let e : t ≡ token_at (between in_text marks) w i = g ∙ ap (λ (c : Mode). token_at c w i) f in
        let p : (s : List ℕ) → pending_by s b (pend_of v) ≡ text_token w [] t =
        λ s. ap (λ (z : List ℕ). pending_by s b (pend_of z)) ev ∙ ap (pending_by s b) ex
        ∙ stored_token s b w q.text t none (part_own b w q.text (q.text + q.size) u.is_part) y.0 y.1 y.2
        ∙ ap (λ (z : List ℕ). text_token w z t) o in
        let d : (s : List ℕ) → stacked s b (drop (length (set l' a v) - (k + 1)) (set l' a v)) (k + 1) ≡ stacked s b (drop (length l' - k) l') k ++ (text_token w [] t ∷ []) =
        λ s. ap₂ (λ (c : ℕ) (j : ℕ). stacked s b (drop (c - (k + 1)) (set l' a v)) j) n (add-one k)
        ∙ ap (λ (z : List (List ℕ)). stacked s b z (suc k)) (drop_put l' k v (unfold_room r))
        ∙ stacked_front s b v (drop (length l' - k) l') k
        ∙ ap (λ (z : Pending). stacked s b (drop (length l' - k) l') k ++ (z ∷ [])) (p s) in
        record {
          is_part = u.is_part;
          same_length = n ∙ u.same_length;
          passed = omega (arith, token_past m w i t g h, u.passed);
          within = y.2;
          put = λ s. u.put s
              ∙ ap (λ (z : List Pending). stacked s b (drop (length l' - k) l') k ++ z) (text_next w marks i t h e)
              ∙ sym (append_assoc (stacked s b (drop (length l' - k) l') k) (text_token w [] t ∷ []) (text_tokens w [] (tokens (between in_text (marks_after marks t)) w t.end)))
              ∙ ap₂ (λ (z : List Pending) (c : Bool). z ++ text_tokens w [] (tokens (between in_text c) w t.end)) (sym (d s)) (sym em);
        }

  -- all
  pub unfold_all : length w ≤ i → length b ≤ length l → Unfolds b q l l' k
  unfold_all h r = record {
    same_length = u.same_length;
    few = omega (arith, text_short, u.passed, u.within);
    short = omega (arith, ap length u.is_part, u.passed, u.within);
    tokens = λ s. ap (λ (n : ℕ). stacked s b (drop (n - k) l') k) (sym u.same_length)
        ∙ sym (u.put s ∙ ap (λ (z : List Pending). stacked s b (drop (length l' - k) l') k ++ z) (text_out w marks i h) ∙ append-nil (stacked s b (drop (length l' - k) l') k))
        ∙ ap tokens_of u.is_part;
  }
