-- A column enters the envelope.
use Rattle.std.proofs.Common.{◌≡◌, ℕ, zero, suc, ◌+◌, ◌-◌, ◌<◌, ◌≤◌, inl, inr, Bool, true, false, sym, ap, subst, ◌∙◌, arith}
use Rattle.std.proofs.lemmas.Bool.{cases_lt, cases_eq}
use Rattle.centre_field.specs.Rows.{value_at, IsEnvelope}
use Rattle.centre_field.proofs.Parabola.{start_of, left_better, right_better}

never_both : {b : Bool} → b ≡ true → b ≡ false → ⊥
never_both p q = cc

le_trans : (a b c : ℕ) → a ≤ b → b ≤ c → a ≤ c
le_trans a b c h k = omega arith

weak : (a b : ℕ) → a < b → a ≤ b
weak a b h = omega arith

module _ (P : ℕ → Bool) (G : ℕ → ℕ) (w : ℕ) (C S : ℕ → ℕ) (n b : ℕ) (p : IsEnvelope P G w C S n b) where
  -- starts rise
  starts_rise : (d i : ℕ) → i + d < n → S i ≤ S (i + d)
  starts_rise zero i h = omega (arith, ap S (add_none i))
    where
      add_none : (i : ℕ) → i + 0 ≡ i
      add_none i = omega arith
  starts_rise (suc d) i h =
      let e : i + suc d ≡ suc (i + d) = omega arith in
      let r = starts_rise d i (omega arith) in
      let s = p.rising (i + d) (omega arith) in
      omega (arith, r, s, ap S e)

  -- the column that stands for x, among those from m on
  record IsCurrent (x m : ℕ) : Type 0 where
    pub j : ℕ
    pub from : m ≤ j
    pub below : j < n
    pub starts : S j ≤ x
    pub next : suc j < n → x < S (suc j)

  current : (d x m : ℕ) → m + suc d ≤ n → S m ≤ x → (m + suc d < n → x < S (m + suc d)) → IsCurrent x m
  current zero x m h start last = record {
    j = m;
    from = omega arith;
    below = omega arith;
    starts = start;
    next = λ k. let e : m + 1 ≡ suc m = omega arith in omega (arith, ap S e, last (omega arith));
  }
  current (suc d) x m h start last =
      elim (cases_lt x (S (m + suc d))) as (λ _. IsCurrent x m) [
        | inl before ↦ current d x m (omega arith) start (λ _. before)
        | inr after ↦ record {
          j = m + suc d;
          from = omega arith;
          below = omega arith;
          starts = after;
          next = λ k. let e : m + suc (suc d) ≡ suc (m + suc d) = omega arith in omega (arith, ap S e, last (omega arith));
        }
      ]

  current_from : (x m : ℕ) → m < n → S m ≤ x → IsCurrent x m
  current_from x m h start = let e : m + suc (n - suc m) ≡ n = omega arith in current (n - suc m) x m (omega arith) start (λ k. absurd (omega arith))

  module _ (m s : ℕ) (m_in : m ≤ n) (gone : (j : ℕ) → m ≤ j → j < n → start_of G (C j) b ≤ S j) (b_part : P b ≡ true) where
    -- where a column that went stood, b is better than all
    after_gone : (x e : ℕ) → x < w → m < n → S m ≤ x → e < b → P e ≡ true → value_at G x b ≤ value_at G x e
    after_gone x e x_in h start e_in e_part =
        let c = current_from x m h start in
        let better = right_better G (C c.j) b x (p.listed c.j c.below) (le_trans _ _ _ (gone c.j c.from c.below) c.starts) in
        le_trans _ _ _ (weak _ _ better) (p.best x c.j e x_in c.below c.starts c.next e_in e_part)

    -- a column that stays is the best where it was and where it takes over
    stays : (x j e : ℕ) → x < w → j < m → S j ≤ x → (suc j < m → x < S (suc j)) → (suc j ≡ m → x < start_of G (C j) b) → e < b → P e ≡ true → value_at G x (C j) ≤ value_at G x e
    stays x j e x_in j_in start next top e_in e_part =
        elim (cases_lt (suc j) m) as (λ _. value_at G x (C j) ≤ value_at G x e) [
          | inl inner ↦ p.best x j e x_in (omega arith) start (λ _. next inner) e_in e_part
          | inr last ↦
              let is_top : suc j ≡ m = omega arith in
              elim (cases_lt m n) as (λ _. value_at G x (C j) ≤ value_at G x e) [
                | inl some ↦ elim (cases_lt x (S m)) as (λ _. value_at G x (C j) ≤ value_at G x e) [
                  | inl before ↦ p.best x j e x_in (omega arith) start (λ _. omega (arith, before, ap S is_top)) e_in e_part
                  | inr after ↦ le_trans _ _ _ (left_better G (C j) b x (p.listed j (omega arith)) (top is_top)) (after_gone x e x_in some after e_in e_part)
                ]
                | inr none ↦ p.best x j e x_in (omega arith) start (λ k. absurd (omega arith)) e_in e_part
              ]
        ]

    -- and no worse than b
    before_b : (x j : ℕ) → x < w → j < m → S j ≤ x → (suc j < m → x < S (suc j)) → (suc j ≡ m → x < start_of G (C j) b) → ((k : ℕ) → suc k ≡ m → S k < start_of G (C k) b)
        → value_at G x (C j) ≤ value_at G x b
    before_b x j x_in j_in start next top top_start =
        elim (cases_lt (suc j) m) as (λ _. value_at G x (C j) ≤ value_at G x b) [
          | inl inner ↦
              let k = m - 1 in
              let is_top : suc k ≡ m = omega arith in
              let way : suc j + (k - suc j) ≡ k = omega arith in
              let rise : S (suc j) ≤ S k = omega (arith, starts_rise (k - suc j) (suc j) (omega arith), ap S way) in
              let x_low : x < start_of G (C k) b = omega (arith, next inner, top_start k is_top, rise) in
              le_trans _ _ _ (p.best x j (C k) x_in (omega arith) start (λ _. next inner) (p.listed k (omega arith)) (p.parts k (omega arith)))
              (left_better G (C k) b x (p.listed k (omega arith)) x_low)
          | inr last ↦ left_better G (C j) b x (p.listed j (omega arith)) (top (omega arith))
        ]

-- b enters behind the m columns that stay
pub entered : (P : ℕ → Bool) (G : ℕ → ℕ) (w : ℕ) (C S C' S' : ℕ → ℕ) (n b m s : ℕ) → IsEnvelope P G w C S n b → m ≤ n → ((j : ℕ) → m ≤ j → j < n → start_of G (C j) b ≤ S j) → P b ≡ true
    → ((k : ℕ) → suc k ≡ m → (S k < start_of G (C k) b) × (s ≡ start_of G (C k) b)) → (m ≡ 0 → s ≡ 0)
    → C' m ≡ b → S' m ≡ s → ((j : ℕ) → j < m → C' j ≡ C j) → ((j : ℕ) → j < m → S' j ≡ S j) → IsEnvelope P G w C' S' (m + 1) (b + 1)
entered P G w C S C' S' n b m s p m_in gone b_part top zero_s c_m s_m c_j s_j = record {
  few = omega (arith, p.few);
  listed = λ j h. elim (cases_lt j m) as (λ _. C' j < b + 1) [ inl inner ↦ omega (arith, c_j j inner, p.listed j (omega arith)) | inr last ↦ let e : j ≡ m = omega arith in omega (arith, ap C' e, c_m) ];
  parts = λ j h. elim (cases_lt j m) as (λ _. P (C' j) ≡ true) [
    | inl inner ↦ subst (λ (x : ℕ). P x ≡ true) (sym (c_j j inner)) (p.parts j (omega arith))
    | inr last ↦ let e : j ≡ m = omega arith in subst (λ (x : ℕ). P x ≡ true) (sym (ap C' e ∙ c_m)) b_part
  ];
  rising = λ j h. elim (cases_lt (suc j) m) as (λ _. S' j < S' (suc j)) [
    | inl inner ↦ omega (arith, s_j j (omega arith), s_j (suc j) inner, p.rising j (omega arith))
    | inr last ↦ let e : suc j ≡ m = omega arith in omega (arith, s_j j (omega arith), ap S' e, s_m, (top j e).0, (top j e).1)
  ];
  first = λ _. elim (cases_eq m 0) as (λ _. S' 0 ≡ 0) [ inl e ↦ ap S' (sym e) ∙ s_m ∙ zero_s e | inr ne ↦ s_j 0 (omega arith) ∙ p.first (omega arith) ];
  some = λ e h k. omega arith;
  best = λ x j e x_in j_in start next e_in e_part.
      elim (cases_lt j m) as (λ _. value_at G x (C' j) ≤ value_at G x e) [
        | inl inner ↦
            let start' : S j ≤ x = omega (arith, s_j j inner) in
            let next' : suc j < m → x < S (suc j) = λ k. omega (arith, next (omega arith), s_j (suc j) k) in
            let top' : suc j ≡ m → x < start_of G (C j) b = λ k. omega (arith, next (omega arith), ap S' k, s_m, (top j k).1) in
            subst (λ (c : ℕ). value_at G x c ≤ value_at G x e) (sym (c_j j inner))
            (elim (cases_lt e b) as (λ _. value_at G x (C j) ≤ value_at G x e) [
              | inl old ↦ stays P G w C S n b p m s m_in gone b_part x j e x_in inner start' next' top' old e_part
              | inr new ↦ let same : e ≡ b = omega arith in
                  subst (λ (c : ℕ). value_at G x (C j) ≤ value_at G x c) (sym same) (before_b P G w C S n b p m s m_in gone b_part x j x_in inner start' next' top' (λ k h. (top k h).0))
            ])
        | inr last ↦
            let is_m : j ≡ m = omega arith in
            subst (λ (c : ℕ). value_at G x c ≤ value_at G x e) (sym (ap C' is_m ∙ c_m))
            (elim (cases_lt e b) as (λ _. value_at G x b ≤ value_at G x e) [
              | inl old ↦ new_best x e x_in (omega (arith, start, ap S' is_m, s_m)) old e_part
              | inr new ↦ let same : e ≡ b = omega arith in omega (arith, ap (value_at G x) same)
            ])
      ];
}
  where
    new_best : (x e : ℕ) → x < w → s ≤ x → e < b → P e ≡ true → value_at G x b ≤ value_at G x e
    new_best x e x_in late e_in e_part =
        elim (cases_lt m n) as (λ _. value_at G x b ≤ value_at G x e) [
          | inl some ↦ elim (cases_lt x (S m)) as (λ _. value_at G x b ≤ value_at G x e) [
            | inl before ↦ by_top x e x_in late e_in e_part (λ _. before)
            | inr after ↦ after_gone P G w C S n b p m s m_in gone b_part x e x_in some after e_in e_part
          ]
          | inr none ↦ by_top x e x_in late e_in e_part (λ k. absurd (omega arith))
        ]
      where
        by_top : (x e : ℕ) → x < w → s ≤ x → e < b → P e ≡ true → (m < n → x < S m) → value_at G x b ≤ value_at G x e
        by_top x e x_in late e_in e_part before =
            elim (cases_eq m 0) as (λ _. value_at G x b ≤ value_at G x e) [
              | inl e0 ↦ absurd (let k = p.some e e_in e_part in omega (arith, k, p.first k, before (omega arith), ap S e0))
              | inr ne ↦
                  let k = m - 1 in
                  let is_top : suc k ≡ m = omega arith in
                  let t = top k is_top in
                  let better = right_better G (C k) b x (p.listed k (omega arith)) (omega (arith, t.1)) in
                  le_trans _ _ _ (weak _ _ better) (p.best x k e x_in (omega arith) (omega (arith, t.0, t.1)) (λ h. omega (arith, before (omega arith), ap S is_top)) e_in e_part)
            ]

-- b would take over past the row's end
pub late : (P : ℕ → Bool) (G : ℕ → ℕ) (w : ℕ) (C S : ℕ → ℕ) (n b m s : ℕ) → IsEnvelope P G w C S n b → m ≤ n → ((j : ℕ) → m ≤ j → j < n → start_of G (C j) b ≤ S j) → P b ≡ true
    → ((k : ℕ) → suc k ≡ m → (S k < start_of G (C k) b) × (s ≡ start_of G (C k) b)) → 0 < m → w ≤ s → IsEnvelope P G w C S m (b + 1)
late P G w C S n b m s p m_in gone b_part top some past = record {
  few = omega (arith, p.few);
  listed = λ j h. omega (arith, p.listed j (omega arith));
  parts = λ j h. p.parts j (omega arith);
  rising = λ j h. p.rising j (omega arith);
  first = λ h. p.first (omega arith);
  some = λ e h k. some;
  best = λ x j e x_in j_in start next e_in e_part.
      let top' : suc j ≡ m → x < start_of G (C j) b = λ k. omega (arith, past, x_in, (top j k).1) in
      elim (cases_lt e b) as (λ _. value_at G x (C j) ≤ value_at G x e) [
        | inl old ↦ stays P G w C S n b p m s m_in gone b_part x j e x_in j_in start next top' old e_part
        | inr new ↦ let same : e ≡ b = omega arith in
            subst (λ (c : ℕ). value_at G x (C j) ≤ value_at G x c) (sym same) (before_b P G w C S n b p m s m_in gone b_part x j x_in j_in start next top' (λ k h. (top k h).0))
      ];
}

-- b takes no part
pub skipped : (P : ℕ → Bool) (G : ℕ → ℕ) (w : ℕ) (C S : ℕ → ℕ) (n b : ℕ) → IsEnvelope P G w C S n b → P b ≡ false → IsEnvelope P G w C S n (b + 1)
skipped P G w C S n b p out = record {
  few = omega (arith, p.few);
  listed = λ j h. omega (arith, p.listed j h);
  parts = p.parts;
  rising = p.rising;
  first = p.first;
  some = λ e h k. elim (cases_eq e b) as (λ _. 0 < n) [ inl same ↦ absurd (never_both (subst (λ (x : ℕ). P x ≡ true) same k) out) | inr other ↦ p.some e (omega arith) k ];
  best = λ x j e x_in j_in start next e_in e_part.
      elim (cases_eq e b) as (λ _. value_at G x (C j) ≤ value_at G x e) [ inl same ↦ absurd (never_both (subst (λ (x : ℕ). P x ≡ true) same e_part) out) | inr other ↦ p.best x j e x_in j_in start next (omega arith) e_part ];
}
