-- What any associative and commutative operation allows: terms change places.
use mathlib.Core.Path.{◌≡◌, sym, ap, ◌∙◌}

module _ {A : Type 0} (op : A → A → A) (assoc : (a b c : A) → op (op a b) c ≡ op a (op b c)) (comm : (a b : A) → op a b ≡ op b a) where
  -- the second term goes first
  pub left_comm : (a b c : A) → op a (op b c) ≡ op b (op a c)
  left_comm a b c = sym (assoc a b c) ∙ ap (λ (x : A). op x c) (comm a b) ∙ assoc b a c

  -- two pairs: first with first, second with second
  pub swap : (a b c d : A) → op (op a b) (op c d) ≡ op (op a c) (op b d)
  swap a b c d = assoc a b (op c d) ∙ ap (op a) (left_comm b c d) ∙ sym (assoc a c (op b d))
