-- Parts of the memory written one behind the other make up the whole memory. Rests on model's memory and on the library's lemmas of lists.
use Rattle.std.proofs.Common.{◌≡◌, ℕ, zero, suc, ◌+◌, ◌*◌, ◌<◌, ◌≤◌, List, [], ◌∷◌, ◌++◌, length, take, drop, set, sym, refl, ap, ◌∙◌, append_assoc, append-nil, arith, length-append, length-drop, drop_of_length-le, take_all, drop-drop, take_at, drop_at}
use borrow.Rule.Slice.PartMut.{put_mid}
use Rattle.interval.specs.Interval.{Interval}
use Rattle.analysis.specs.Reach.{unreached, reached}
use Rattle.analysis.specs.AbstractState.{Env, Abstract, nth_interval}
use Rattle.model.specs.Memory.{zeros, bounds, end_bounds, no_end, memory_with}
use Rattle.model.proofs.Memory.{length_bounds, length_ends, zeros_append}
use Rattle.model.proofs.Start.{bounds_zeros}

-- one interval more
bounds_more : (i : ℕ) (ss : List Interval) → i < length ss → bounds (suc i) ss ≡ bounds i ss ++ ((nth_interval ss i).lo ∷ (nth_interval ss i).hi ∷ [])
unfolding bounds nth_interval
bounds_more i [] h = absurd (omega arith)
bounds_more zero (s ∷ ss) h = refl
bounds_more (suc i) (s ∷ ss) h = ap (λ (ws : List ℕ). s.lo ∷ s.hi ∷ ws) (bounds_more i ss (omega arith))

-- two words written behind others
two_set : (xs ys : List ℕ) (a b : ℕ) → 2 ≤ length ys → set (set (xs ++ ys) (length xs) a) (suc (length xs)) b ≡ xs ++ (a ∷ b ∷ drop 2 ys)
two_set [] [] a b h = absurd (omega arith)
two_set [] (y ∷ []) a b h = absurd (omega arith)
two_set [] (y ∷ z ∷ ys) a b h = refl
two_set (x ∷ xs) ys a b h = ap (λ (ws : List ℕ). x ∷ ws) (two_set xs ys a b h)

-- an interval's words written behind those of the intervals before it
pub bounds_put : (w w₀ : List ℕ) (ss : List Interval) (i lo hi : ℕ) → length w₀ ≡ 2 * length ss → i < length ss → (nth_interval ss i).lo ≡ lo → (nth_interval ss i).hi ≡ hi →
    w ≡ bounds i ss ++ drop (2 * i) w₀ → set (set w (2 * i) lo) (2 * i + 1) hi ≡ bounds (i + 1) ss ++ drop (2 * (i + 1)) w₀
bounds_put w w₀ ss i lo hi l h p q e =
    let k : length (bounds i ss) ≡ 2 * i = length_bounds i ss in
    let s : 2 * i + 1 ≡ suc (2 * i) = omega arith in
    let t : 2 * (i + 1) ≡ 2 * i + 2 = omega arith in
    let n : i + 1 ≡ suc i = omega arith in
    let room : 2 ≤ length (drop (2 * i) w₀) = simp length-drop (omega arith) in
    let two = two_set (bounds i ss) (drop (2 * i) w₀) lo hi room in
    rw (e, s, t, n, bounds_more i ss h, p, q, append_assoc (bounds i ss) (lo ∷ hi ∷ []) (drop (2 * i + 2) w₀), ← drop-drop 2 (2 * i) w₀) (rw k at two)

-- all intervals' words
pub bounds_all : (w w₀ : List ℕ) (ss : List Interval) (i n : ℕ) → length w₀ ≡ 2 * n → n ≤ i → i ≤ n → w ≡ bounds i ss ++ drop (2 * i) w₀ → w ≡ bounds n ss
bounds_all w w₀ ss i n l h g e =
    let s : i ≡ n = omega arith in
    let rest : drop (2 * n) w₀ ≡ [] = drop_of_length-le w₀ {i = 2 * n} (omega arith) in
    e ∙ rw (s, rest) (append-nil (bounds n ss))

-- the words of a part replaced
mid_behind : (p r ys : List ℕ) (a k : ℕ) → length p ≡ a → put_mid a k (p ++ r) ys ≡ p ++ (ys ++ drop k r)
mid_behind p r ys a k e = rw (take_at p r a e, drop_at p r a e) refl

-- where nothing comes all bounds are 0
pub ends_cleared : (w : List ℕ) (n : ℕ) (h : Abstract) → h ≡ unreached → n ≡ 160 → w ≡ zeros n → w ≡ end_bounds h
unfolding end_bounds
ends_cleared w n h is l e = rw l at e ∙ rw (is, bounds_zeros 64, bounds_zeros 16) (sym (zeros_append 128 32))

-- the variables' words, then the arrays'
pub ends_put : (w xs ys : List ℕ) (v : Env) (h : Abstract) → h ≡ reached v → length w ≡ 160 → xs ≡ bounds 64 v.values → ys ≡ bounds 16 v.arrays →
    put_mid 128 32 (xs ++ drop 128 w) ys ≡ end_bounds h
unfolding end_bounds
ends_put w xs ys v h is l e f =
    let k : length xs ≡ 128 = ap length e ∙ length_bounds 64 v.values in
    let rest : drop 32 (drop 128 w) ≡ [] = drop-drop 32 128 w ∙ drop_of_length-le w {i = 160} (omega arith) in
    mid_behind xs (drop 128 w) ys 128 32 k ∙ rw (is, rest, append-nil ys, e, f) refl

-- the three first words, the bounds, the table and the scratch, one behind the other
pub memory_put : (m ends t t₀ z : List ℕ) (v f : ℕ) (h : Abstract) → length m ≡ 22083 → length t₀ ≡ 10920 → f ≡ no_end h → ends ≡ end_bounds h → t ≡ t₀ →
    z ≡ zeros (length (take 11000 (drop 11083 (put_mid 163 10920 (put_mid 3 160 (set (set (set m 0 v) 1 f) 2 0) ends) t)))) →
    put_mid 11083 11000 (put_mid 163 10920 (put_mid 3 160 (set (set (set m 0 v) 1 f) 2 0) ends) t) z ≡ memory_with 0 v h t₀
memory_put [] ends t t₀ z v f h l k e₁ e₂ e₃ e₄ = absurd (omega arith)
memory_put (x ∷ []) ends t t₀ z v f h l k e₁ e₂ e₃ e₄ = absurd (omega arith)
memory_put (x ∷ y ∷ []) ends t t₀ z v f h l k e₁ e₂ e₃ e₄ = absurd (omega arith)
memory_put (x ∷ y ∷ u ∷ m) ends t t₀ z v f h l k e₁ e₂ e₃ e₄ =
    let front : List ℕ = v ∷ f ∷ 0 ∷ ends in
    let rest : List ℕ = drop 10920 (drop 160 m) in
    let a : length front ≡ 163 = omega (arith, ap length e₂, length_ends h) in
    let b : length (front ++ t) ≡ 11083 = omega (arith, length-append front t, ap length e₃) in
    let r : length rest ≡ 11000 = simp length-drop (omega arith) in
    let s : put_mid 163 10920 (front ++ drop 160 m) t ≡ (front ++ t) ++ rest = mid_behind front (drop 160 m) t 163 10920 a ∙ sym (append_assoc front t rest) in
    let none : drop 11000 rest ≡ [] = drop_of_length-le rest {i = 11000} (omega arith) in
    let whole : take 11000 rest ≡ rest = take_all 11000 rest (omega arith) in
    let n : length (take 11000 (drop 11083 (put_mid 163 10920 (front ++ drop 160 m) t))) ≡ 11000 =
    ap (λ (ws : List ℕ). length (take 11000 (drop 11083 ws))) s ∙ rw (drop_at (front ++ t) rest 11083 b, whole) r in
    let cleared : z ≡ zeros 11000 = rw n at e₄ in
    ap (λ (ws : List ℕ). put_mid 11083 11000 ws z) s ∙ mid_behind (front ++ t) rest z 11083 11000 b ∙ rw (none, append-nil z, append_assoc ends t z, cleared, e₁, e₂, e₃) refl
