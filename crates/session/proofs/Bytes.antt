-- Rows told apart by their bytes. Rests on that numbers are read back from their eight bytes.
use Rattle.std.proofs.Common.{◌≡◌, ℕ, ◌^◌, ◌<◌, List, [], ◌∷◌, ◌++◌, length, get_or, take, sym, refl, ap, ◌∙◌, inl, inr, ⊎_elim, arith, drop-cons}
use Rattle.std.specs.List.{AllByRecursion as All}
use Rattle.program.specs.Basics.{in_bytes, eight}
use Rattle.encoding.specs.Reader.{ok, read_eight}
use Rattle.encoding.specs.Standing.{Stands}
use Rattle.encoding.proofs.ReadBack.{eight_back}
use Rattle.model.specs.Session.{Among}
use Rattle.session.specs.declared.rows.Row.{Row}
use Rattle.session.specs.declared.rows.Row.TheVariants.{Alarm, Bounds}
use Rattle.session.specs.Rows.{row_bytes, rows_bytes, Words, Has}

-- an alarm, and two bounds, as they stand in sixteen bytes
pub alarm_read : (out : List ℕ) (a : ℕ) → length out ≡ 16 → Stands out 0 (eight a) → eight a ++ get_or out 8 0 ∷ [] ≡ take 9 out
unfolding in_bytes
alarm_read out a l s =
    let room : 8 < length out = omega arith in
    sym (ap (λ (xs : List ℕ). take 9 xs) (s ∙ ap (λ (xs : List ℕ). eight a ++ xs) (drop-cons out 8 0 room)))

pub bounds_read : (out : List ℕ) (a b : ℕ) → Stands out 0 (eight a) → Stands out 8 (eight b) → eight a ++ eight b ≡ take 16 out
unfolding in_bytes
bounds_read out a b s t = sym (ap (λ (xs : List ℕ). take 16 xs) (s ∙ ap (λ (xs : List ℕ). eight a ++ xs) t))

-- numbers and what stands behind them, by their bytes
eight_same : (a b : ℕ) (xs ys : List ℕ) → a < 2 ^ 64 → b < 2 ^ 64 → eight a ++ xs ≡ eight b ++ ys → (a ≡ b) × (xs ≡ ys)
eight_same a b xs ys h g e =
    let f : ok a xs ≡ ok b ys = sym (eight_back a xs h) ∙ ap read_eight e ∙ eight_back b ys g in
    (cc, cc)

alarm_same : (r : Row) (d k : ℕ) → Words r → d < 2 ^ 64 → eight d ++ k ∷ [] ≡ row_bytes r → Alarm d k ≡ r
alarm_same (Alarm stmt kind) d k w h e =
    let q = eight_same d stmt (k ∷ []) (kind ∷ []) h w e in let a = q.0 in let b = q.1 in cc
alarm_same (Bounds lo hi) d k w h e = let f : ◌≡◌ {A = ℕ} 9 16 = unfold in_bytes in ap length e in absurd (omega arith)

bounds_same : (r : Row) (lo hi : ℕ) → Words r → lo < 2 ^ 64 → hi < 2 ^ 64 → row_bytes r ≡ eight lo ++ eight hi → r ≡ Bounds lo hi
bounds_same (Alarm stmt kind) lo hi w h g e = let f : ◌≡◌ {A = ℕ} 9 16 = unfold in_bytes in ap length e in absurd (omega arith)
bounds_same (Bounds a b) lo hi w h g e =
    let q = eight_same a lo (eight b) (eight hi) w.0 h e in
    let f : eight b ++ [] ≡ eight hi ++ [] = ap (λ (xs : List ℕ). xs ++ []) q.1 in
    let z = eight_same b hi [] [] w.1 g f in
    let c = q.0 in let d = z.0 in cc

-- an alarm whose bytes are among those of the rows
pub has_alarm_row : (rows : List Row) (d k : ℕ) → All Words rows → d < 2 ^ 64 → Among (eight d ++ k ∷ []) (rows_bytes rows) → Has (Alarm d k) rows
has_alarm_row [] d k w h a = a
has_alarm_row (r ∷ rows) d k w h a =
    ⊎_elim
    (λ (e : eight d ++ k ∷ [] ≡ row_bytes r). inl (alarm_same r d k w.0 h e))
    (λ (b : Among (eight d ++ k ∷ []) (rows_bytes rows)). inr (has_alarm_row rows d k w.1 h b))
    a

-- rows by their bytes
pub no_rows : (rows : List Row) → rows_bytes rows ≡ [] → rows ≡ []
no_rows [] e = refl
no_rows (r ∷ rows) e = let z : ◌≡◌ {A = ℕ} 0 1 = cc in absurd (omega arith)

pub one_bounds : (rows : List Row) (lo hi : ℕ) → All Words rows → lo < 2 ^ 64 → hi < 2 ^ 64 → rows_bytes rows ≡ (eight lo ++ eight hi) ∷ [] → rows ≡ Bounds lo hi ∷ []
one_bounds [] lo hi w h g e = let z : ◌≡◌ {A = ℕ} 0 1 = cc in absurd (omega arith)
one_bounds (r ∷ []) lo hi w h g e =
    let f : row_bytes r ≡ eight lo ++ eight hi = cc in
    ap (λ (q : Row). q ∷ []) (bounds_same r lo hi w.0 h g f)
one_bounds (r ∷ s ∷ rows) lo hi w h g e = let z : ◌≡◌ {A = ℕ} 0 1 = cc in absurd (omega arith)
