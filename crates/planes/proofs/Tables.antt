-- Laws of lists that are built from the front, and the invariant of a loop that fills an array with one: of the n places the first i hold
-- what they are to hold, and the others what they held before.
use mathlib.Core.Path.{◌≡◌, refl, sym, ap, ap₂, ◌∙◌}
use mathlib.Core.List.{List, [], ◌∷◌, ◌++◌, append-nil}
use Prim.Native.Nat.{ℕ, zero, suc, ◌+◌, ◌≤◌, ◌<◌}
use mathlib.Core.Logic.{◌⊎◌, inl, inr}
use native.Mathlib.Nat.{not-suc-le-zero, eq-or-lt_of_le, le_of_suc-le-suc}
use native.Mathlib.Numerals.{add-one}
use native.Mathlib.Omega.{arith}
use lib.ListN.{length, get_or, drop, set, length-append, length-drop, length-set, get_or-append, drop_of_length-le}
use Rattle.std.proofs.lemmas.List.{ext_get_or}
use lib.Seq.{get_or_at, set_at, drop-cons, append_snoc, get_or-set_same, get_or-set_other}
use Rattle.planes.specs.Tables.{grow, tab}

module _ {A : Type 0} where
  length-grow : (g : List A → ℕ → A) (n : ℕ) → length (grow g n) ≡ n
  unfolding grow
  length-grow g zero = refl
  length-grow g (suc n) = simp (length-append, length-grow g n) (add-one n)

  get_d_more :
      (g : List A → ℕ → A) (n i : ℕ) (d : A) → (i < n → get_or (grow g n) i d ≡ g (grow g i) i) → (i ≡ n) ⊎ (i < n)
      → get_or (grow g (suc n)) i d ≡ g (grow g i) i
  unfolding grow
  get_d_more g n i d ih (inl e) = rw e (get_or_at (grow g n) _ [] d n (length-grow g n))
  get_d_more g n i d ih (inr l) = get_or-append (grow g n) _ d i (rw length-grow l) ∙ ih l

  -- what stands at a place does not depend on how far the list has grown since
  pub get_d_grow : (g : List A → ℕ → A) (n i : ℕ) (d : A) → i < n → get_or (grow g n) i d ≡ g (grow g i) i
  get_d_grow g zero i d h = absurd (not-suc-le-zero h)
  get_d_grow g (suc n) i d h = get_d_more g n i d (λ l. get_d_grow g n i d l) (eq-or-lt_of_le (le_of_suc-le-suc h))

  pub length-tab : (n : ℕ) (f : ℕ → A) → length (tab n f) ≡ n
  unfolding tab
  length-tab n f = length-grow _ n

  pub get_d_tab : (n : ℕ) (f : ℕ → A) (i : ℕ) (d : A) → i < n → get_or (tab n f) i d ≡ f i
  unfolding tab
  get_d_tab n f i d h = get_d_grow _ n i d h

  -- two tables are equal by their entries
  pub tab-ext : (n : ℕ) (f g : ℕ → A) → ((i : ℕ) → i < n → f i ≡ g i) → tab n f ≡ tab n g
  unfolding tab grow
  tab-ext zero f g h = refl
  tab-ext (suc n) f g h = ap₂ (λ (l : List A) (x : A). l ++ (x ∷ [])) (tab-ext n f g (λ i k. h i (omega arith))) (h n (omega arith))

  -- a list is a table by its length and its entries
  pub tab_of : (n : ℕ) (f : ℕ → A) (d : A) (t : List A) → length t ≡ n → ((i : ℕ) → i < n → get_or t i d ≡ f i) → t ≡ tab n f
  tab_of n f d t e h = ext_get_or d t (tab n f) (e ∙ sym (length-tab n f)) (λ i l. h i (omega arith) ∙ sym (get_d_tab n f i d (omega arith)))

  -- and so two functions with equal tables agree at every place of them: a fact of small numbers that is computed holds of each
  pub at_each : (n : ℕ) (f g : ℕ → A) → tab n f ≡ tab n g → (i : ℕ) → i < n → f i ≡ g i
  at_each n f g e i h = sym (get_d_tab n f i (f 0) h) ∙ ap (λ (l : List A). get_or l i (f 0)) e ∙ get_d_tab n g i (f 0) h

  -- the loop's invariant: t is b, which has n places, with the first i of them filled
  pub record Filled (g : List A → ℕ → A) (n : ℕ) (b : List A) (i : ℕ) (t : List A) : Type 0 where
    pub size : length b ≡ n
    pub within : i ≤ n
    pub is : t ≡ grow g i ++ drop i b

  pub filled_start : (g : List A → ℕ → A) (n : ℕ) (b : List A) → length b ≡ n → Filled g n b 0 b
  unfolding grow
  filled_start g n b e = record { size = e; within = omega arith; is = refl }

  grow_next : (g : List A → ℕ → A) (i : ℕ) (r : List A) → grow g i ++ g (grow g i) i ∷ r ≡ grow g (suc i) ++ r
  unfolding grow
  grow_next g i r = sym (append_snoc (grow g i) (g (grow g i) i) r)

  -- one store more
  pub filled_next :
      {g : List A → ℕ → A} {n : ℕ} {b : List A} {i : ℕ} {t : List A} (v : A) → Filled g n b i t → i < n → v ≡ g (grow g i) i
      → Filled g n b (i + 1) (set t i v)
  filled_next {g} {n} {b} {i} {t} v f h e =
      let l : i < length b = omega arith in
      record {
        size = f.size;
        within = omega arith;
        is =
            ap (λ x. set x i v) f.is
            ∙ rw (drop-cons b i v, set_at (grow g i) (get_or b i v) (drop (suc i) b) v i (length-grow g i), e, add-one) (grow_next g i _);
      }

  -- what a filled place holds
  pub filled-read :
      {g : List A → ℕ → A} {n : ℕ} {b : List A} {i : ℕ} {t : List A} (j : ℕ) (d : A) → Filled g n b i t → j < i
      → get_or t j d ≡ get_or (grow g i) j d
  filled-read {g} {n} {b} {i} j d f h = rw f.is (get_or-append (grow g i) (drop i b) d j (rw length-grow h))

  -- the same where no place depends on those before it
  pub filled-entry :
      {f : ℕ → A} {n : ℕ} {b : List A} {i : ℕ} {t : List A} (j : ℕ) (d : A) → Filled (λ before k. f k) n b i t → j < i → get_or t j d ≡ f j
  filled-entry {f} {i = i} j d x h = filled-read j d x h ∙ get_d_grow (λ before k. f k) i j d h

  pub filled-length : {g : List A → ℕ → A} {n : ℕ} {b : List A} {i : ℕ} {t : List A} → Filled g n b i t → length t ≡ length b
  filled-length {g} {n} {b} {i} f = rw f.is (length-append (grow g i) (drop i b) ∙ omega (arith, length-grow g i, length-drop i b, f))

  pub filled_done : {g : List A → ℕ → A} {n : ℕ} {b : List A} {i : ℕ} {t : List A} → Filled g n b i t → n ≤ i → t ≡ grow g n
  filled_done {g} {n} {b} {i} {t} f h =
      let e : i ≡ n = omega arith in
      let l : length b ≤ i = omega arith in
      f.is ∙ rw (drop_of_length-le b l, e) (append-nil _)

  -- the invariant where what a place is to hold is known by a property: of n places the first i have it
  pub record Each (P : ℕ → A → Type 0) (d : A) (n i : ℕ) (t : List A) : Type 0 where
    pub size : length t ≡ n
    pub each : (j : ℕ) → j < i → P j (get_or t j d)

  pub each_start : (P : ℕ → A → Type 0) (d : A) (n : ℕ) (t : List A) → length t ≡ n → Each P d n 0 t
  each_start P d n t e = record { size = e; each = λ j h. absurd (not-suc-le-zero h) }

  each_set : {P : ℕ → A → Type 0} {d : A} {n i : ℕ} {t : List A} {v : A} → Each P d n i t → i < n → P i v → (j : ℕ) → (j ≡ i) ⊎ (j < i)
      → P j (get_or (set t i v) j d)
  each_set {d = d} {i = i} {t} {v} f h p j (inl e) = rw (e, get_or-set_same t i v d (omega (arith, f.size))) p
  each_set {d = d} {i = i} {t} {v} f h p j (inr l) = rw (get_or-set_other t i j v d (omega arith)) (f.each j l)

  -- one store more
  pub each_next : {P : ℕ → A → Type 0} {d : A} {n i : ℕ} {t : List A} {v : A} → Each P d n i t → i < n → P i v → Each P d n (i + 1) (set t i v)
  each_next {i = i} {t} {v} f h p =
      record { size = length-set t i v ∙ f.size; each = λ j l. each_set f h p j (eq-or-lt_of_le (omega arith)) }
