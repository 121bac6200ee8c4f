-- Vectors that are written one after the other.
use Rattle.std.proofs.Common.{◌≡◌, ℕ, List, [], ◌∷◌, ◌++◌, Option, Result, Ok, Err, IfOk, refl, sym, ap, ◌∙◌, append_assoc}
use Rattle.std.specs.List.{concat}
use Rattle.std.specs.Io.KnownBytes.{Appends}
use Rattle.std.proofs.KnownBytes.{Appends-nil, Appends-trans}
use Rattle.std.proofs.lemmas.List.{append-nil}
use Rattle.std.proofs.lemmas.List.Elements.{All-append, All-cons, All-nil}
use Rattle.std.proofs.lemmas.List.Folds.{concat-append}
use Rattle.dia_io.specs.Writing.{AppendsFront}
use Rattle.dia_terms.specs.declared.Unknown.{Unknown}
use Rattle.dia_dict.specs.Dictionary.{Dictionary}
use Rattle.dia_examples_text.specs.declared.forms.Form.{Form}
use Rattle.dia_examples_text.specs.Vectors.{AreVectors, Begins, IsVector, Writes}

module _ (form : Form) (d : Dictionary) (u : Unknown) where
  all_vectors : (x y : List ℕ) → AreVectors form d u x → AreVectors form d u y → AreVectors form d u (x ++ y)
  all_vectors x y (xs, first, is) (ys, second, also) =
      (xs ++ ys, All-append (IsVector form d u) xs ys first second, ap (λ (t : List ℕ). t ++ y) is ∙ ap (λ (t : List ℕ). concat xs ++ t) also ∙ sym (concat-append xs ys))

  pub nothing_written : (a : Option (List ℕ)) → Writes form d u a a
  nothing_written a = ([], ([], All-nil (IsVector form d u), refl), Appends-nil a)

  one_vector : (text : List ℕ) → IsVector form d u text → AreVectors form d u text
  one_vector text vector = (text ∷ [], All-cons (IsVector form d u) text [] vector (All-nil (IsVector form d u)), sym (append-nil text))

  pub one_written : (a b : Option (List ℕ)) (text : List ℕ) → IsVector form d u text → Appends a b text → Writes form d u a b
  one_written a b text vector put = (text, one_vector text vector, put)

  pub one_begun : (a b : Option (List ℕ)) (text : List ℕ) → IsVector form d u text → AppendsFront a b text → Begins form d u a b
  one_begun a b text vector put = (text, one_vector text vector, put)

  pub both_written : (a b c : Option (List ℕ)) → Writes form d u a b → Writes form d u b c → Writes form d u a c
  both_written a b c (x, first, put) (y, second, rest) = (x ++ y, all_vectors x y first second, Appends-trans a b c x y put rest)

  pub both_if_written : {V E : Type 0} (r : Result V E) (a b c : Option (List ℕ)) → Writes form d u a b → IfOk r (λ done. Writes form d u b c)
      → IfOk r (λ done. Writes form d u a c)
  both_if_written (Ok done) a b c first second = both_written a b c first second
  both_if_written (Err fault) a b c first second = tt

  pub begun_after : (a b c : Option (List ℕ)) → Writes form d u a b → Begins form d u b c → Begins form d u a c
  begun_after a b c (x, first, put) (y, second, (front, rest, parts, begun)) =
      (x ++ y, all_vectors x y first second, (x ++ front, rest, ap (λ (t : List ℕ). x ++ t) parts ∙ sym (append_assoc x front rest), Appends-trans a b c x front put begun))

  pub whole_begun : (a b : Option (List ℕ)) → Writes form d u a b → Begins form d u a b
  whole_begun a b (x, vectors, put) = (x, vectors, (x, [], sym (append-nil x), put))
