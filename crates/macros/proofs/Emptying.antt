-- The stored form of a macro that is defined empty, copied to the front of a buffer.
-- Assumes nothing.
use mathlib.Core.Path.{◌≡◌, refl, sym, ap, ◌∙◌}
use mathlib.Core.List.{List, [], ◌∷◌, ◌++◌, append-nil}
use Prim.Native.Nat.{ℕ, ◌+◌, ◌-◌, ◌<◌}
use native.Mathlib.Nat.{sub-zero}
use native.Mathlib.Numerals.{add-one}
use native.Mathlib.Omega.{arith}
use lib.ListN.{length, take, drop, set, length-append, length-drop}
use lib.Seq.{take-suc-set, take_at}
use Rattle.text.specs.Bytes.{part}
use Rattle.definition.specs.Definitions.{macro}
use Rattle.form.specs.Forms.{parameter_forms, head_form, form_of, text_start}
use Rattle.store.specs.Buffers.{FormIs}

-- all of the name copied to the front of a buffer, and a byte 0 behind it
pub empty_form : (w f y : List ℕ) {p : List ℕ} → length w < length f → y ≡ w → p ≡ part (set (y ++ drop (length w - 0) f) (length w) 0) 0 (length w + 1)
    → FormIs (macro w [] []) p (length w) (length w + 1)
unfolding form_of head_form parameter_forms text_start
empty_form w f y {p} l e q =
    let n = length w in
    let g : List ℕ = y ++ drop (n - 0) f in
    let a : length y ≡ n = ap length e in
    let k : n < length g = omega (arith, length-append y (drop (n - 0) f), length-drop (n - 0) f) in
    let c : take n g ≡ w = take_at y (drop (n - 0) f) n a ∙ e in
    record {
      form_is =
          q
          ∙ ap (λ (x : ℕ). take x (set g n 0)) (sub-zero (n + 1) ∙ add-one n)
          ∙ take-suc-set g n 0 k
          ∙ ap (λ (x : List ℕ). x ++ (0 ∷ [])) c
          ∙ sym (append-nil (w ++ (0 ∷ [])));
      name_is = refl;
      text_is = sym (length-append w (0 ∷ []));
    }
