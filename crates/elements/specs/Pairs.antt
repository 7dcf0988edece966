-- What a pair of values means.

abbrev pub both : {A B V W : Type 0} → (A → V) → (B → W) → A × B → V × W
both m n p = (m p.0, n p.1)
