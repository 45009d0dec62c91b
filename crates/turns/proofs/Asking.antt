-- The act at a cursor is asked for, with its reason and its end within the file.
-- Assumes nothing.
use Prim.Native.Nat.{ℕ, ◌<◌, ◌≤◌}
use mathlib.Core.Bool.{Bool, true, false, not, ◌&&◌, ◌||◌}
use mathlib.Core.Option.{Option, none, some}
use mathlib.Core.List.{List}
use mathlib.Core.Path.{◌≡◌, refl, sym, ap, ◌∙◌}
use native.Mathlib.Omega.{arith}
use lib.Dec.{eqb, leb}
use lib.ListN.{length, get_or}
use borrow.Author.Tests.{eqb-true, eqb-false, leb-true, leb-false, not-true}
use Rattle.std.specs.Prelude.{Ok, Err}
use Rattle.text.specs.Bytes.{part}
use Rattle.lex.specs.Tokens.{in_file, Grave, End, is, name_of}
use Rattle.lex.proofs.Tests.{by_test, and_left, and_right, true_false}
use Rattle.lex.proofs.Progress.{Inside, token_past, token_ends, token_within}
use Rattle.names.specs.Names.{FileWord, LineWord, Define, Undef, UndefineAll, Ifdef, Ifndef, Elsif, Else, Endif, Include, Resetall, EndKeywords, directive_of}
use Rattle.directive.specs.declared.Value.{Value}
use Rattle.directive.specs.declared.Form.{Form}
use Rattle.directive.specs.declared.Form.TheVariants.{Formed, Unformed, Barred}
use Rattle.directive.specs.declared.MacroName.{MacroName}
use Rattle.directive.specs.declared.MacroName.TheVariants as name
use Rattle.directive.specs.declared.FileName.{FileName}
use Rattle.directive.specs.declared.FileName.TheVariants.{Unnamed, Quoted, Angled}
use Rattle.directive.specs.declared.IncludeLine.{IncludeLine}
use Rattle.directive.specs.Forms.{undef_at}
use Rattle.directive.specs.Include.{include_at}
use Rattle.directive.proofs.Undefining.{form_of, undef-form}
use Rattle.definition.specs.Definitions.{Definition, barred, bad, good, definition_at}
use Rattle.conditions.specs.Grammar.{Condition}
use Rattle.conditions.proofs.Parts.{condition_level}
use Rattle.blocks.specs.Blocks.{Conditional, taken_by, next_block, close_block}
use Rattle.handover.specs.Entries.{entry_of}
use Rattle.turns.specs.States.{Context, Frame, State, Here}
use Rattle.turns.specs.Acts.{Act, keeps, refuses_here, on_form, form_here, is_defined_here, condition_here, on_condition, on_blocks, open_act, condition_act, conditional_act, define_act, hide_act, undef_act, enter_act, on_file, include_act, taken_act, grave_act, act_at}
use Rattle.turns.specs.Asking.{Reading, Named, EndsAt, Taken, Ignored, of_token, of_form, of_condition, of_definition, of_line, of_rule, ill, well, Opens, by_ifdef, by_ifndef, by_elsif, by_else, by_endif, Includes, quoted_name, angled_name, all_but, no_more, file_name, line_number, Asks, to_refuse, to_leave, to_copy, to_skip, to_hide, to_branch, to_define, to_undefine, to_include, to_keep, to_spell, to_expand}
use Rattle.turns.specs.Usages.{outer_of, usage_end, expand_here}
use Rattle.turns.specs.Turns.{here_at}
use Rattle.turns.proofs.Forms.{include_inside, form_inside}
use Rattle.turns.proofs.Definitions.{bad_inside, good_inside}
use Rattle.turns.proofs.Usages.{usage_inside}

pub ends_at : (h : Here) (e : ℕ) → Inside h.body h.token.end e → EndsAt h e
ends_at h e i = record { past = i.past; within = i.within }

pub as_inside : (h : Here) (e : ℕ) → EndsAt h e → Inside h.body h.token.end e
as_inside h e i = record { past = i.past; within = i.within }

only_ifndef : (d : ℕ) → Ifdef ≤ d → d ≤ Endif → (d ≡ Endif → ⊥) → (d ≡ Else → ⊥) → (d ≡ Elsif → ⊥) → (d ≡ Ifdef → ⊥) → d ≡ Ifndef
only_ifndef d a b x y z w = omega arith

-- where the file goes on behind a usage that is expanded to its end
pub usage_ends : (h : Here) → h.token.end ≤ length h.body → eqb (expand_here h).stop 0 ≡ true → EndsAt h (usage_end h)
usage_ends h w e =
    ends_at h (usage_end h)
    (usage_inside h.body h.token.end w h.state.left (outer_of h) h.state.macros h.state.room (name_of h.body h.token) e)

-- behind the word alone
pub word_ends : (h : Here) → Reading h → EndsAt h h.token.end
word_ends h r = record { past = omega arith; within = r.within }

module _ (h : Here) where
  rule : (n : ℕ) → 7 ≤ n → n ≤ 11 → Asks h (refuses_here h n)
  rule n a b = to_refuse (of_rule a b)

  -- a grave accent name, of the directive d
  module _ (d : ℕ) (a : Named h d) where
    form_asks : (k : ℕ) (y : Value → ℕ → Act) → ((v : Value) (e : ℕ) → form_here k h ≡ Formed v e → EndsAt h e → Asks h (y v e))
        → Asks h (on_form h.token.at (form_here k h) y)
    form_asks k y g = go (form_here k h) refl
      where
        go : (f : Form) → form_here k h ≡ f → Asks h (on_form h.token.at f y)
        go (Formed v e) q = g v e q (ends_at h e (form_inside h.body h.token.end a.reading.within k v e q))
        go Unformed q = rule 7 (omega arith) (omega arith)
        go (Barred n p) q = to_refuse (of_form k q)

    condition_asks : (y : Bool → ℕ → Act) → ((b : Bool) (e : ℕ) → condition_here h ≡ Ok (b, e) → EndsAt h e → Asks h (y b e)) → Asks h (on_condition (condition_here h) y)
    condition_asks y g = go (condition_here h) refl
      where
        go : (c : Condition) → condition_here h ≡ c → Asks h (on_condition c y)
        go (Ok x) q = g x.0 x.1 q (ends_at h x.1 (condition_level h.body (is_defined_here h) h.token x.0 x.1 q a.reading.within).inside)
        go (Err u) q = to_refuse (of_condition q)

    blocks_ask : (e : ℕ) (o : Option (List Conditional)) → Opens h d e o → EndsAt h e → Asks h (on_blocks h.token.at e o)
    blocks_ask e none o i = rule 8 (omega arith) (omega arith)
    blocks_ask e (some cs) o i = to_branch a o i

    conditional_asks : (leb Ifdef d && leb d Endif) ≡ true → Asks h (conditional_act d h)
    unfolding conditional_act
    conditional_asks c =
        by_test (Asks h) (eqb d Endif) (λ q. blocks_ask _ (close_block h.state.conds) (by_endif (eqb-true d Endif q)) (word_ends h a.reading))
        (λ x. by_test (Asks h) (eqb d Else) (λ q. blocks_ask _ (next_block true true h.state.conds) (by_else (eqb-true d Else q)) (word_ends h a.reading))
        (λ y. condition_asks (condition_act d h)
        (λ b e f i. by_test (Asks h) (eqb d Elsif)
        (λ z. blocks_ask e (next_block b false h.state.conds) (by_elsif (eqb-true d Elsif z) f) i)
        (λ z. by_test (λ (b : Bool). Asks h (open_act h b e)) (eqb d Ifdef) (λ w. blocks_ask e _ (by_ifdef (eqb-true d Ifdef w) f) i)
        (λ w. blocks_ask e _
        (by_ifndef (only_ifndef d (leb-true Ifdef d (and_left (leb Ifdef d) (leb d Endif) c)) (leb-true d Endif (and_right (leb Ifdef d) (leb d Endif) c))
        (eqb-false d Endif x) (eqb-false d Else y) (eqb-false d Elsif z) (eqb-false d Ifdef w)) f) i)))))

    -- d is n
    named : (n : ℕ) → eqb d n ≡ true → Named h n
    named n e = record { reading = a.reading; grave = a.grave; name_is = a.name_is ∙ eqb-true d n e }

    define_asks : (y : Definition) → eqb d Define ≡ true → Taken h → definition_at h.body h.token.end ≡ y → Asks h (define_act h.token.at y)
    define_asks (barred n p) c t q = to_refuse (of_definition q)
    define_asks (bad e) c t q = rule 11 (omega arith) (omega arith)
    define_asks (good m e) c t q = to_define (named Define c) t q (ends_at h e (good_inside h.body h.token.end a.reading.within m e q))

    hide_asks : (y : Definition) → eqb d Define ≡ true → Ignored h → definition_at h.body h.token.end ≡ y → Asks h (hide_act y)
    hide_asks (barred n p) c t q = to_refuse (of_definition q)
    hide_asks (bad e) c t q = to_hide (named Define c) t (ill q) (ends_at h e (bad_inside h.body h.token.end a.reading.within e q))
    hide_asks (good m e) c t q = to_hide (named Define c) t (well q) (ends_at h e (good_inside h.body h.token.end a.reading.within m e q))

    undef_asks : (y : MacroName) → eqb d Undef ≡ true → Taken h → undef_at h.body h.token.end ≡ y → Asks h (undef_act h y)
    undef_asks y c t q = go y q (undef-form h.body h.token.end ∙ ap form_of q)
      where
        go : (y : MacroName) → undef_at h.body h.token.end ≡ y → form_here Undef h ≡ form_of y → Asks h (undef_act h y)
        go (name.Named p e) q f =
            to_undefine a.reading t (all_but p (named Undef c) q)
            (ends_at h e (form_inside h.body h.token.end a.reading.within Undef _ e f))
        go name.Unnamed q f = rule 7 (omega arith) (omega arith)
        go (name.Barred n p) q f = to_refuse (of_form Undef f)

    -- the include's line
    abbrev line : IncludeLine
    line = include_at h.body h.token.end

    line_ends : EndsAt h line.end
    line_ends = ends_at h line.end (include_inside h.body h.token.end a.reading.within)

    enter_asks : (form : ℕ) (w : List ℕ) → eqb d Include ≡ true → Taken h → Includes h form w → Asks h (enter_act h line form w)
    enter_asks form w c t f =
        let k = entry_of h.context.store form w h.context.table in
        by_test (Asks h) (h.frame.cursor.other || (line.other || (eqb form 1 && eqb (get_or w 0 0) 47))) (λ q. rule 9 (omega arith) (omega arith))
        (λ q. by_test (Asks h) (leb (length h.context.table) k) (λ q. rule 9 (omega arith) (omega arith))
        (λ n. by_test (Asks h) (leb 15 (length h.others)) (λ q. rule 10 (omega arith) (omega arith))
        (λ m. to_include (named Include c) t
        (record {
          form = form;
          name = w;
          named = f;
          entry_is = refl;
          entry_in = leb-false (length h.context.table) k n;
          depth_in = leb-false 15 (length h.others) m;
        }) line_ends)))

    line_asks : (n : FileName) → line.file ≡ n → eqb d Include ≡ true → Taken h → Asks h (on_file h.token.at h.body n (enter_act h line))
    line_asks Unnamed q c t = rule 7 (omega arith) (omega arith)
    line_asks (Quoted p e) q c t = enter_asks 0 (part h.body p e) c t (quoted_name q)
    line_asks (Angled p e) q c t = enter_asks 1 (part h.body p e) c t (angled_name q)

    include_asks : eqb d Include ≡ true → Taken h → Asks h (include_act h line)
    include_asks c t = by_test (Asks h) (eqb line.bars.number 0) (λ q. line_asks line.file refl c t) (λ q. to_refuse (of_line q))

    taken_asks : Taken h → Asks h (taken_act d h)
    unfolding taken_act
    taken_asks t =
        by_test (Asks h) (eqb d 0) (λ q. to_expand (named 0 q) t)
        (λ q. by_test (Asks h) (eqb d Define) (λ q. define_asks (definition_at h.body h.token.end) q t refl)
        (λ q. by_test (Asks h) (eqb d Undef) (λ q. undef_asks (undef_at h.body h.token.end) q t refl)
        (λ q. by_test (Asks h) (eqb d UndefineAll) (λ q. to_undefine a.reading t (no_more (named UndefineAll q)) (word_ends h a.reading))
        (λ q. by_test (Asks h) (eqb d Include) (λ q. include_asks q t)
        (λ q. by_test (Asks h) (leb Resetall d && leb d EndKeywords)
        (λ k. form_asks d keeps (λ v e q i. to_keep d a t k q i))
        (λ q. by_test (Asks h) (eqb d FileWord) (λ q. to_spell a.reading t (file_name (named FileWord q)))
        (λ q. by_test (Asks h) (eqb d LineWord) (λ q. to_spell a.reading t (line_number (named LineWord q)))
        (λ q. rule 7 (omega arith) (omega arith)))))))))

    grave_asks : Asks h (grave_act d h)
    grave_asks =
        by_test (Asks h) (leb Ifdef d && leb d Endif) conditional_asks
        (λ q. by_test (Asks h) (taken_by h.state.conds) taken_asks
        (λ t. by_test (Asks h) (eqb d Define) (λ c. hide_asks (definition_at h.body h.token.end) c t refl) (λ q. to_skip a.reading t)))

module _ (x : Context) (s : State) (f : Frame) (fs : List Frame) where
  abbrev here : Here
  here = here_at x s f fs

  -- a token that is not the end
  inside : is End here.token ≡ false → f.cursor.at < length here.body
  inside e = go (leb (length here.body) f.cursor.at) refl
    where
      go : (b : Bool) → leb (length here.body) f.cursor.at ≡ b → f.cursor.at < length here.body
      go true q =
          true_false (is End here.token)
          (ap (is End) (token_past in_file here.body f.cursor.at (leb-true (length here.body) f.cursor.at q))) e
      go false q = leb-false (length here.body) f.cursor.at q

  reads : eqb here.token.bar 0 ≡ true → is End here.token ≡ false → Reading here
  reads b e =
      let l = inside e in
      record { free = b; some_token = e; before = l; past = token_ends in_file here.body f.cursor.at l; within = token_within in_file here.body f.cursor.at l }

  not_false : (b : Bool) → not b ≡ false → b ≡ true
  not_false true e = refl
  not_false false e = sym e

  -- the act at a cursor, with its reason
  pub act_asks : Asks here (act_at here)
  unfolding act_at
  act_asks =
      let t = here.token in
      by_test (Asks here) (not (eqb t.bar 0)) (λ q. to_refuse (of_token (not-true (eqb t.bar 0) q)))
      (λ b. by_test (Asks here) (is End t) (λ q. to_leave (not_false (eqb t.bar 0) b) q)
      (λ e. let r : Reading here = reads (not_false (eqb t.bar 0) b) e in
      by_test (Asks here) (is Grave t) (λ g. grave_asks here (directive_of (name_of here.body t)) (record { reading = r; grave = g; name_is = refl }))
      (λ g. by_test (Asks here) (taken_by s.conds) (λ q. to_copy r q g) (λ q. to_skip r q))))
