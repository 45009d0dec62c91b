-- The macro that a usage names, as it lies in the macro bytes, and the list that it accepts.
-- Assumes nothing.
use Prim.Native.Nat.{ℕ, ◌+◌, ◌<◌, ◌≤◌}
use mathlib.Core.Bool.{false}
use mathlib.Core.List.{List, [], ◌∷◌, ◌++◌}
use mathlib.Core.Path.{◌≡◌, refl, sym, ap, ◌∙◌}
use native.Mathlib.Omega.{arith}
use lib.ListN.{length, get_or}
use Rattle.definition.specs.Definitions.{Parameter, Macro, macro}
use Rattle.form.specs.Forms.{list_form, head_form, form_of, parameter_forms, text_start}
use Rattle.packed.specs.Records.{blank_record, RecordIs}
use Rattle.packed.specs.declared.Record.{Record}
use Rattle.store.specs.Stores.{macro_at, macro_text, find}
use Rattle.store.specs.Buffers.{Holds}
use Rattle.std.proofs.Common.{Result, Ok, Err}
use Rattle.store.proofs.Entries.{start, Entry, Told, entry, told, part_sized}
use Rattle.store.proofs.Places.{found_below}
use Rattle.genuine.proofs.Lying.{Lies, lies_front, lies_back, lies_byte, lies_part}
use Rattle.sets.specs.Sets.{elem}
use Rattle.std.proofs.Common.{Ok}
use Rattle.replace.specs.Placing.{MacroIn}
use Rattle.expand.specs.Standing.{CalledBy}

-- ---- the macro in the bytes

abbrev pub formals_of : Macro → List Parameter
formals_of (macro n fs t) = fs

macro_lies : {b : List ℕ} {s : ℕ} {q : Record} (m : Macro) → length b ≤ 65536 → Lies b s (form_of m) → Told s m q → MacroIn b q (formals_of m) (macro_text m)
unfolding form_of head_form text_start
macro_lies {b} {s} {q} (macro n fs t) small l k =
    let a : Lies b s (n ++ list_form fs) = lies_front (n ++ list_form fs) t l in
    let c : Lies b (q.start + q.name) (list_form fs) = lies_back n (list_form fs) a (omega (arith, k.start_is, k.name_is)) in
    let f : Lies b (q.start + q.name + 1) (parameter_forms fs) = lies_back (length fs ∷ []) (parameter_forms fs) c refl in
    let x : Lies b q.text t = lies_back (n ++ list_form fs) t l k.text_is in
    record {
      count = lies_byte (length fs) (parameter_forms fs) c;
      formals = record { small = small; fits = f.fits; bytes = f.bytes };
      text = lies_part x (ap (λ (y : ℕ). q.text + y) k.size_is);
      within = omega (arith, x.fits, k.size_is);
    }

-- macro i lies where its record says
pub macro_in : {ms : List Macro} {b : List ℕ} {r : List (List ℕ)} {n : ℕ} {q : Record} → Holds ms b r n → length b ≤ 65536 → (i : ℕ) → i < n → RecordIs (get_or r i blank_record) q
    → MacroIn b q (formals_of (macro_at ms i)) (macro_text (macro_at ms i))
macro_in {ms} {b} {r} {n} {q} h small i l k =
    let m : Macro = macro_at ms i in
    let s : ℕ = start ms i in
    let e : Entry b r i s m = entry h i l in
    macro_lies m small (record { fits = e.within; bytes = sym (part_sized b s (length (form_of m))) ∙ e.form_is }) (told e k)

-- ---- what a usage names, by what the search answered

module _ (w : List ℕ) {ms : List Macro} {b : List ℕ} {r : List (List ℕ)} {n : ℕ} {f : Result ℕ ℕ} (h : Holds ms b r n) (e : f ≡ find w ms) where
  pub names_macro : (set : List ℕ) (i : ℕ) → f ≡ Ok i → elem i set ≡ false → CalledBy (Ok i) (find w ms) ms set n
  names_macro set i a t = (sym e ∙ a, t, found_below w h e i a)
