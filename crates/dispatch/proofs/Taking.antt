-- Which act a token asks for, and what the functions of its directive need.
-- Assumes nothing.
use Prim.Native.Nat.{ℕ, ◌≤◌}
use mathlib.Core.Bool.{true, false, ◌&&◌}
use mathlib.Core.List.{List, []}
use mathlib.Core.Path.{◌≡◌}
use native.Mathlib.Omega.{arith}
use lib.Dec.{leb}
use borrow.Author.Tests.{eq-eqb, ne_eqb}
use Rattle.lex.specs.declared.Token.{Token}
use Rattle.names.specs.Names.{Define, Undef, UndefineAll, Include, Resetall, EndKeywords}
use Rattle.directive.specs.Include.{include_at}
use Rattle.directive.specs.Forms.{undef_at}
use Rattle.definition.specs.Definitions.{definition_at}
use Rattle.macros.specs.Defining.{Ready}
use Rattle.copying.specs.Copying.{Reads}
use Rattle.turns.specs.States.{Here}
use Rattle.turns.specs.Acts.{undefines, expands, define_act, undef_act, include_act, keep_act, taken_act}
use Rattle.steps.specs.declared.stage.Stage.{Stage}
use Rattle.steps.specs.Standing.{At, PlaceLent, UsageLent, place_act}
use Rattle.dispatch.specs.Going.{Works, GoingIn}
use Rattle.steps.proofs.Going.{reads_here, token_here}

-- ---- what the functions need

module _ {fs : List ℕ} {es : List (List ℕ)} {tx mp bs : List ℕ} {rs fr : List (List ℕ)} {z : Stage} {s : List ℕ} {t : Token}
    (g : GoingIn fs es tx mp bs rs fr z) (a : At fs es s t z) where
  pub reads_at : Reads s 0 z.cursor
  reads_at =
      let r = reads_here a g.going.ok in
      record { small = r.small; place_small = omega arith; inside = r.inside; line_small = r.line_small }

  pub file_small : z.file ≤ 63
  file_small = omega (arith, g.going.ok.file_in, g.going.few_entries)

  pub line_low : z.cursor.line ≤ 65536
  line_low = let r = reads_at in omega (arith, r.small, r.inside, r.line_small)

  module _ {list out ranges : List (List ℕ)} {stack work quoted decimal name form : List ℕ} (w : Works list out ranges stack work quoted decimal name form) where
    pub place_lent : PlaceLent fs es s quoted decimal tx mp z
    place_lent =
        record {
          file_in = g.going.ok.file_in;
          few_entries = g.going.few_entries;
          entries = g.going.entries;
          reads = reads_at;
          quoted_lent = w.quoted_lent;
          decimal_lent = w.decimal_lent;
          spot = record { in_text = g.going.ok.copyable.in_text; in_map = g.going.ok.copyable.in_map };
        }

    pub usage_lent : UsageLent fs es s t bs rs list out ranges stack work quoted decimal tx mp z
    usage_lent =
        record {
          place = place_lent;
          inside = (token_here a g.going.ok).within;
          lends =
              record {
                file_small = reads_at.small;
                bytes_small = g.going.bytes_small;
                few_macros = g.going.ok.few_macros;
                stored = g.going.stored;
                list_lent = w.list_lent;
                out_lent = w.out_lent;
                ranges_lent = w.ranges_lent;
                brackets_lent = w.stack_lent;
              };
          work_lent = w.work_lent;
        }

    pub define_ready : Ready s bs rs z.macros name work form
    define_ready =
        record {
          small = g.going.bytes_small;
          few = g.going.ok.few_macros;
          stored = g.going.stored;
          name_long = w.name_lent;
          work_long = let r = reads_at in omega (arith, r.small, w.work_lent);
          form_long = omega (arith, g.going.bytes_small, w.form_lent);
        }

-- ---- which act

module _ (d : ℕ) (h : Here) where
  pub taken_usage : d ≡ 0 → taken_act d h ≡ expands
  unfolding taken_act
  taken_usage e = simp (eq-eqb d 0 e)

  module _ (n : d ≡ 0 → ⊥) where
    pub taken_define : {s : List ℕ} {t : Token} → h.body ≡ s → h.token ≡ t → d ≡ Define → taken_act d h ≡ define_act h.token.at (definition_at s t.end)
    unfolding taken_act
    taken_define b k e = simp (ne_eqb d 0 n, eq-eqb d Define e, b, k)

    module _ (n2 : d ≡ Define → ⊥) where
      pub taken_undef : {s : List ℕ} {t : Token} → h.body ≡ s → h.token ≡ t → d ≡ Undef → taken_act d h ≡ undef_act h (undef_at s t.end)
      unfolding taken_act
      taken_undef b k e = simp (ne_eqb d 0 n, ne_eqb d Define n2, eq-eqb d Undef e, b, k)

      module _ (n3 : d ≡ Undef → ⊥) where
        pub taken_all : {t : Token} → h.token ≡ t → d ≡ UndefineAll → taken_act d h ≡ undefines [] t.end
        unfolding taken_act
        taken_all k e = simp (ne_eqb d 0 n, ne_eqb d Define n2, ne_eqb d Undef n3, eq-eqb d UndefineAll e, k)

        module _ (n4 : d ≡ UndefineAll → ⊥) where
          pub taken_include : {s : List ℕ} {t : Token} → h.body ≡ s → h.token ≡ t → d ≡ Include → taken_act d h ≡ include_act h (include_at s t.end)
          unfolding taken_act
          taken_include b k e = simp (ne_eqb d 0 n, ne_eqb d Define n2, ne_eqb d Undef n3, ne_eqb d UndefineAll n4, eq-eqb d Include e, b, k)

          module _ (n5 : d ≡ Include → ⊥) where
            pub taken_keep : (leb Resetall d && leb d EndKeywords) ≡ true → taken_act d h ≡ keep_act d h
            unfolding taken_act
            taken_keep e = simp (ne_eqb d 0 n, ne_eqb d Define n2, ne_eqb d Undef n3, ne_eqb d UndefineAll n4, ne_eqb d Include n5, e)

            module _ (n6 : (leb Resetall d && leb d EndKeywords) ≡ false) where
              pub taken_place : taken_act d h ≡ place_act d h
              unfolding taken_act
              taken_place = simp (ne_eqb d 0 n, ne_eqb d Define n2, ne_eqb d Undef n3, ne_eqb d UndefineAll n4, ne_eqb d Include n5, n6)
