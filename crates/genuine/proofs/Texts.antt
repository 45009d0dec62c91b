-- A stored text that is not bad, as it is spelled at the end of a definition: nothing bars it, and it is stored as it was.
-- Assumes nothing.
use Prim.Native.Nat.{ℕ, zero, suc, ◌+◌, ◌-◌, ◌<◌, ◌≤◌}
use mathlib.Core.Bool.{Bool, true, false, cond, not, ◌||◌}
use mathlib.Core.List.{List, [], ◌∷◌, append-nil}
use mathlib.Core.Path.{◌≡◌, refl, sym, ap, ◌∙◌}
use native.Mathlib.Omega.{arith}
use lib.Dec.{eqb, leb}
use lib.ListN.{length, get_or, drop, drop_of_length-le, length-drop}
use borrow.Author.Tests.{eqb-true, eqb-false, leb-true, leb-false}
use Rattle.text.specs.Bytes.{part}
use Rattle.lex.specs.Tokens.{in_definition, in_text, between, Newline, Quote, Continuation, Byte, is, plain, marks_after, token_at, tokens}
use Rattle.lex.specs.Faults.{Unbarred, none, some}
use Rattle.lex.specs.declared.Token.{Token}
use Rattle.lex.proofs.Progress.{token_ends}
use Rattle.lex.proofs.Listing.{tokens_out}
use Rattle.storing.specs.Stored.{piece, pieces}
use Rattle.storing.proofs.Reading.{define_next, text_next}
use Rattle.storing.proofs.Joining.{pieces_out, pieces_next}
use Rattle.afresh.specs.Judging.{barred_grave}
use Rattle.afresh.specs.Unfit.{is_unfit, unfit_in, unfit_text}
use Rattle.judging.proofs.Shielding.{part_drop}
use Rattle.genuine.specs.Spelling.{spelled}
use Rattle.genuine.proofs.Tests.{or_left, passed}
use Rattle.genuine.proofs.Parts.{part_one}
use Rattle.genuine.proofs.Spelled.{TextRead}
use Rattle.genuine.proofs.Aligning.{nothing, Aligned, byte_within, newline_within, newline_slash, newline_next, newline_past}
use Rattle.genuine.proofs.Turning.{fit_of, Taken, Turn, same, longer, token_turn}
use Rattle.genuine.proofs.Breaking.{newline_token, slash-token, continuation_token}

-- a text that is not bad: its next token is fit, and what follows is not bad
pub record Fine (w : List ℕ) (b : Bool) (u : Token) : Type 0 where
  pub fit : is_unfit w b u ≡ false
  pub rest : unfit_in w (marks_after b u) (tokens (between in_text (marks_after b u)) w u.end) ≡ false

pub fine : (w : List ℕ) (b : Bool) (i : ℕ) (u : Token) → u ≡ token_at (between in_text b) w i → i < length w → unfit_in w b (tokens (between in_text b) w i) ≡ false → Fine w b u
unfolding unfit_in
fine w b i u q l e =
    let r = unfit_in w (marks_after b u) (tokens (between in_text (marks_after b u)) w u.end) in
    let p : cond (is_unfit w b u || barred_grave w u) true r ≡ false = rw (text_next b (between in_text b) w i u refl q l) at e in
    let h = passed (is_unfit w b u || barred_grave w u) r p in
    record { fit = or_left (is_unfit w b u) (barred_grave w u) h.0; rest = h.1 }

-- a newline stands between no quote marks
fit_newline : (w : List ℕ) (b : Bool) (i : ℕ) → is_unfit w b (plain Newline i (i + 1) 0) ≡ false → b ≡ false
fit_newline w b i e = or_left b false e

module _ (s w : List ℕ) where
  -- w from i on is what is stored of s from j on
  record Kept (b : Bool) (i j : ℕ) : Type 0 where
    unbarred : Unbarred (tokens (between in_definition b) s j)
    stored : pieces s (length s) b (tokens (between in_definition b) s j) ≡ drop i w

  kept_out : (b : Bool) (i j : ℕ) → length w ≤ i → Aligned s w [] i j → Kept b i j
  unfolding spelled
  kept_out b i j h a =
      let p : drop j s ≡ [] = a.rest ∙ rw (drop_of_length-le w h) in
      let q : length s - j ≡ 0 = sym (length-drop j s) ∙ ap length p in
      let l : length s ≤ j = omega arith in
      record {
        unbarred = rw (tokens_out (between in_definition b) s j l) none;
        stored = pieces_out s (length s) j b l ∙ sym (drop_of_length-le w h);
      }

  module _ (b : Bool) (i j : ℕ) where
    kept_next : (e : ℕ) (t : Token) → t ≡ token_at (between in_definition b) s j → j < length s → is Newline t ≡ false → t.bar ≡ 0 → piece s b t ≡ part w i e → i ≤ e → (c : Bool) → c ≡ marks_after b t → Kept c e t.end → Kept b i j
    kept_next e t q l n z g h c d k =
        record {
          unbarred = rw (define_next b (between in_definition b) s j t refl q l (eqb-false t.kind Newline n), ← d) (some z k.unbarred);
          stored = pieces_next s (length s) j b (between in_definition b) t refl q l (eqb-false t.kind Newline n) l c d ∙ (rw (g, k.stored) (part_drop w i e h));
        }

    -- what is known of what follows
    abbrev Later : Type 0
    Later = (c : Bool) (e f : ℕ) → i < e → Aligned s w [] e f → unfit_in w c (tokens (between in_text c) w e) ≡ false → Kept c e f

    module _ (a : Aligned s w [] i j) (l : i < length w) (g : unfit_in w b (tokens (between in_text b) w i) ≡ false) (k : Later) where
      kept_newline : get_or w i 0 ≡ 10 → Kept b i j
      unfolding piece
      kept_newline n =
          let f : Fine w b (plain Newline i (i + 1) 0) = fine w b i (plain Newline i (i + 1) 0) (sym (newline_token w i true b n)) l g in
          let c : b ≡ false = fit_newline w b i f.fit in
          let p : part w i (i + 1) ≡ 10 ∷ [] = part_one w i l ∙ ap (λ (y : ℕ). y ∷ []) n in
          kept_next (i + 1) (plain Continuation j (j + 2) 0) (sym (continuation_token s j (newline_slash a l n) (newline_next a l n) b)) (newline_within a l n) refl refl
          (rw (c, p)) (omega arith) b refl
          (k b (i + 1) (j + 2) (omega arith) (newline_past a l n) f.rest)

      kept_taken : (e : ℕ) (c : Bool) → i < e → Taken s w [] true b i j e (token_at (between in_definition b) s j) → j < length s → c ≡ marks_after b (token_at (between in_definition b) s j)
          → unfit_in w c (tokens (between in_text c) w e) ≡ false → Kept b i j
      kept_taken e c h t m d r =
          kept_next e (token_at (between in_definition b) s j) refl m t.going t.unbarred t.gives t.along.past c d
          (k c e (token_at (between in_definition b) s j).end h t.along.aligned r)

      module _ (n : eqb (get_or w i 0) 10 ≡ false) where
        kept_turn : Turn s w [] true b i j (token_at (between in_definition b) s j) (token_at (between in_text b) w i) → Fine w b (token_at (between in_text b) w i) → Kept b i j
        kept_turn (same e t) f =
            let u = token_at (between in_text b) w i in
            kept_taken u.end (marks_after b u) (token_ends (between in_text b) w i l) t (byte_within a l n)
            (ap (λ (y : ℕ). cond (eqb y Quote) (not b) b) (sym e)) f.rest
        kept_turn (longer o t) f =
            let u = token_at (between in_text b) w i in
            let h : i < u.end = token_ends (between in_text b) w i l in
            let g : u.end < length w = omega (arith, t.along.within) in
            let c : marks_after b u ≡ b = rw o.unquoted in
            let d : marks_after b (token_at (between in_definition b) s j) ≡ b = rw o.no_quote in
            let r : unfit_in w b (tokens (between in_text b) w u.end) ≡ false = rw c at f.rest in
            let v : Fine w b (plain Byte u.end (u.end + 1) 0) = fine w b u.end (plain Byte u.end (u.end + 1) 0) (sym (slash-token w u.end o.slash o.newline true b)) g r in
            kept_taken (u.end + 1) b (omega arith) t (byte_within a l n) (sym d) v.rest

        kept_token : Kept b i j
        kept_token =
            let f : Fine w b (token_at (between in_text b) w i) = fine w b i (token_at (between in_text b) w i) refl l g in
            kept_turn (token_turn true b i j a l n (fit_of w b (token_at (between in_text b) w i) f.fit)) f

      kept_step : (c : Bool) → eqb (get_or w i 0) 10 ≡ c → Kept b i j
      kept_step true n = kept_newline (eqb-true (get_or w i 0) 10 n)
      kept_step false n = kept_token n

  text_walk : (n : ℕ) (b : Bool) (i j : ℕ) → length w ≤ n + i → Aligned s w [] i j → unfit_in w b (tokens (between in_text b) w i) ≡ false → Kept b i j
  text_walk zero b i j h a g = kept_out b i j (omega arith) a
  text_walk (suc n) b i j h a g = go (leb (length w) i) refl (λ c e f q. text_walk n c e f (omega arith))
    where
      go : (c : Bool) → leb (length w) i ≡ c → Later b i j → Kept b i j
      go true q k = kept_out b i j (leb-true (length w) i q) a
      go false q k = kept_step b i j a (leb-false (length w) i q) g k (eqb (get_or w i 0) 10) refl

pub text_read : (s w : List ℕ) (p : ℕ) → drop p s ≡ spelled w → unfit_text w ≡ false → TextRead s w p
unfolding unfit_text
text_read s w p e g =
    let a : Aligned s w [] 0 p = record { behind = nothing; rest = e ∙ sym (append-nil (spelled w)) } in
    let k : Kept s w false 0 p = text_walk s w (length w) false 0 p (omega arith) a g in
    record { unbarred = k.unbarred; stored = k.stored }
