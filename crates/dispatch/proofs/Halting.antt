-- The act at a token that ends reading: the file's end, a grave accent name in taken text, and one in ignored text.
-- Assumes nothing.
use Prim.Native.Nat.{ℕ}
use mathlib.Core.Bool.{Bool, true, false, ◌&&◌}
use mathlib.Core.List.{List}
use mathlib.Core.Path.{◌≡◌, refl, sym, ap, ◌∙◌}
use native.Mathlib.Omega.{arith}
use lib.Dec.{leb}
use borrow.Author.Tests.{eq-eqb, ne_eqb, eqb-true}
use Rattle.lex.specs.declared.Token.{Token}
use Rattle.lex.specs.Tokens.{in_file, Grave, End, is, name_of}
use Rattle.lex.proofs.Tests.{true_false}
use Rattle.lex.proofs.Progress.{token-at}
use Rattle.names.specs.Names.{Define, Ifdef, Endif, directive_of}
use Rattle.definition.specs.Definitions.{Macro, definition_at}
use Rattle.store.specs.Buffers.{Holds}
use Rattle.blocks.specs.Blocks.{taken_by}
use Rattle.blocks.specs.Stacks.{open_in}
use Rattle.copying.specs.declared.Cursor.{Cursor}
use Rattle.copying.specs.Cursors.{stops_at, cursor_past, cursor_behind}
use Rattle.turns.specs.States.{Context, Here, behind, frames_at, go_to}
use Rattle.turns.specs.Acts.{leaves, skips, hide_act, taken_act, act_at}
use Rattle.turns.specs.Performing.{perform}
use Rattle.reading.specs.Reading.{Halts}
use Rattle.steps.specs.declared.stage.Stage.{Stage}
use Rattle.steps.specs.declared.stage.Step.TheVariants as step
use Rattle.steps.specs.Standing.{bufs, here_of, with_cursor, Ok, Fixed, At, Performed}
use Rattle.steps.proofs.Going.{body_here, token_at_here, token_here, goes_behind}

-- such a token is the end or a grave accent name
grave_here : (t : Token) → stops_at t ≡ true → t.bar ≡ 0 → (t.kind ≡ End → ⊥) → t.kind ≡ Grave
grave_here t q b n = go (is Grave t) refl
  where
    go : (g : Bool) → is Grave t ≡ g → t.kind ≡ Grave
    go true e = eqb-true t.kind Grave e
    go false e =
        let r : stops_at t ≡ false = simp (e, ne_eqb t.kind End n, eq-eqb t.bar 0 b) in
        true_false (stops_at t) q r

-- ---- the act, by the token

module _ (h : Here) (clear : h.token.bar ≡ 0) where
  act_end : h.token.kind ≡ End → act_at h ≡ leaves
  unfolding act_at
  act_end e = rw (clear, e)

  module _ (g : h.token.kind ≡ Grave) (d : ℕ) (e : d ≡ directive_of (name_of h.body h.token)) (n : (leb Ifdef d && leb d Endif) ≡ false) where
    act_taken : taken_by h.state.conds ≡ true → act_at h ≡ taken_act d h
    unfolding act_at
    act_taken k = rw (clear, g, ← e, n, k)

    act_hidden : taken_by h.state.conds ≡ false → d ≡ Define → act_at h ≡ hide_act (definition_at h.body h.token.end)
    unfolding act_at
    act_hidden k q = rw (clear, g, ← e, n, k, eq-eqb d Define q)

    act_skipped : taken_by h.state.conds ≡ false → (d ≡ Define → ⊥) → act_at h ≡ skips
    unfolding act_at
    act_skipped k q = rw (clear, g, ← e, n, k, ne_eqb d Define q)

-- a grave accent name is other text on its line, and no comment
past_grave : (s : List ℕ) (t : Token) (c : Cursor) → t.kind ≡ Grave → t.at ≡ c.at → cursor_past s false t c ≡ cursor_behind s t.end c
unfolding cursor_past cursor_behind
past_grave s t c g e = rw (g, e)

-- ---- .. at the cursor of a stage

module _ (limit : ℕ) (ms : List Macro) {x : Context} {fs : List ℕ} {es : List (List ℕ)} {set : ℕ} {tx mp bs : List ℕ} {rs fr cd : List (List ℕ)}
    {z : Stage} {s : List ℕ} {t : Token} {d : ℕ} (fixed : Fixed x fs es set (bufs tx mp bs rs fr cd)) (here : At fs es s t z)
    (ok : Ok fs es (bufs tx mp bs rs fr cd) z) (halts : Halts s z.cursor t d) where
  abbrev h : Here
  h = here_of x limit (bufs tx mp bs rs fr cd) ms z

  clear_here : h.token.bar ≡ 0
  clear_here = ap (λ (t : Token). t.bar) (token_at_here fixed here) ∙ halts.clear

  directive_here : d ≡ directive_of (name_of h.body h.token)
  directive_here = rw (token_at_here fixed here, body_here fixed here) halts.directive_is

  pub special_end : t.kind ≡ End → act_at h ≡ leaves
  special_end e = act_end h clear_here (ap (λ (t : Token). t.kind) (token_at_here fixed here) ∙ e)

  module _ (on : t.kind ≡ End → ⊥) where
    kind_here : h.token.kind ≡ Grave
    kind_here = ap (λ (t : Token). t.kind) (token_at_here fixed here) ∙ grave_here t halts.stops halts.clear on

    pub special_taken : z.blocks.taken ≡ true → act_at h ≡ taken_act d h
    special_taken k = act_taken h clear_here kind_here d directive_here halts.no_conditional (sym ok.blocks_are.taken_is ∙ k)

    module _ (k : z.blocks.taken ≡ false) where
      ignored : taken_by (open_in cd z.blocks.open) ≡ false
      ignored = sym ok.blocks_are.taken_is ∙ k

      pub special_hidden : d ≡ Define → act_at h ≡ hide_act (definition_at s t.end)
      special_hidden q =
          act_hidden h clear_here kind_here d directive_here halts.no_conditional ignored q
          ∙ rw (token_at_here fixed here, body_here fixed here)

      skipped_behind : (d ≡ Define → ⊥) → perform h (act_at h) ≡ go_to h (behind h t.end) (open_in cd z.blocks.open) ms
      skipped_behind q =
          ap (perform h) (act_skipped h clear_here kind_here d directive_here halts.no_conditional ignored q)
          ∙ ap (λ (c : Cursor). go_to h (frames_at h c) (open_in cd z.blocks.open) ms)
          (past_grave h.body h.token z.cursor kind_here (token-at in_file h.body z.cursor.at))
          ∙ ap (λ (t : Token). go_to h (behind h t.end) (open_in cd z.blocks.open) ms) (token_at_here fixed here)

      pub special_skipped : (d ≡ Define → ⊥) → Holds ms bs rs z.macros → (y : Stage) → y ≡ with_cursor z (cursor_behind s t.end z.cursor)
          → Performed (step.On y) x fs es limit (bufs tx mp bs rs fr cd) (bufs tx mp bs rs fr cd) ms z (λ h. act_at h)
      special_skipped q held y e =
          rw e
          (goes_behind x fs es set limit tx mp bs bs rs rs fr cd ms ms z s t t.end z.macros (perform h (act_at h)) fixed here ok
          (record { past = omega arith; within = (token_here here ok).within }) (skipped_behind q) held ok.few_macros)
