-- Walks over bytes that collect thresholds, put together from the walks over their parts. Rests on the definitions alone.
use Rattle.std.proofs.Common.{◌≡◌, ℕ, suc, ◌+◌, ◌-◌, ◌<◌, ◌≤◌, Bool, true, false, cond, ltb, ◌⊎◌, List, [], ◌∷◌, ◌++◌, length, set, sym, refl, ap, ◌∙◌, subst, add-zero, add-suc, suc-add, arith, length-append}
use lib.Seq.{sets, length-sets}
use Rattle.std.specs.List.{AllByRecursion as All}
use Rattle.program.specs.Basics.{filter, limit}
use Rattle.encoding.specs.Standing.{Stands}
use Rattle.encoding.proofs.Standing.{stands_within}
use Rattle.thresholds.specs.declared.table.Collector.{Collector}
use Rattle.thresholds.specs.Collecting.{small, Low, SameLoans, Room, Ready, Written, Writes, Collects, Walk}

-- filtering part by part, where one more passes or not
filter_more : {A : Type 0} (b : Bool) (x : A) (xs ys zs : List A) → zs ≡ xs ++ ys → cond b (x ∷ zs) zs ≡ cond b (x ∷ xs) xs ++ ys
filter_more {A = A} true x xs ys zs e = ap (λ (l : List A). x ∷ l) e
filter_more false x xs ys zs e = e

filter_append : {A : Type 0} (p : A → Bool) (xs ys : List A) → filter p (xs ++ ys) ≡ filter p xs ++ filter p ys
filter_append p [] ys = refl
filter_append p (x ∷ xs) ys = filter_more (p x) x (filter p xs) (filter p ys) (filter p (xs ++ ys)) (filter_append p xs ys)

pub small_append : (xs ys : List ℕ) → small (xs ++ ys) ≡ small xs ++ small ys
small_append xs ys = filter_append (λ (m : ℕ). ltb m limit) xs ys

pub length_small : (xs ys : List ℕ) → length (small (xs ++ ys)) ≡ length (small xs) + length (small ys)
length_small xs ys = rw (small_append xs ys) (length-append (small xs) (small ys))

-- one list written behind another
sets_append : (l : List ℕ) (i : ℕ) (xs ys : List ℕ) → sets (sets l i xs) (i + length xs) ys ≡ sets l i (xs ++ ys)
sets_append l i [] ys = rw (add-zero i) refl
sets_append l i (x ∷ xs) ys = rw (add-suc i (length xs), ← suc-add i (length xs)) (sets_append (set l i x) (suc i) xs ys)

all_left : {A : Type 0} (P : A → Type 0) (xs ys : List A) → All P (xs ++ ys) → All P xs
all_left P [] ys h = tt
all_left P (x ∷ xs) ys h = (h.0, all_left P xs ys h.1)

all_right : {A : Type 0} (P : A → Type 0) (xs ys : List A) → All P (xs ++ ys) → All P ys
all_right P [] ys h = h
all_right P (x ∷ xs) ys h = all_right P xs ys h.1

-- nothing yet
pub written_none : (c : Collector) → Written [] c c
written_none c = record { writes = refl; counts = omega arith }

-- more behind what is there
pub written_two : (xs ys : List ℕ) (c c₁ c₂ : Collector) → Written xs c c₁ → Written ys c₁ c₂ → Written (xs ++ ys) c c₂
written_two xs ys c c₁ c₂ h g =
    let T = c.slots.now in
    record {
      writes = g.writes ∙ ap (λ (l : List ℕ). sets l c₁.count (small ys)) h.writes ∙ ap (λ (k : ℕ). sets (sets T c.count (small xs)) k (small ys)) h.counts
          ∙ sets_append T c.count (small xs) (small ys) ∙ ap (λ (l : List ℕ). sets T c.count l) (sym (small_append xs ys));
      counts = omega (arith, g.counts, h.counts, length_small xs ys);
    }

-- the table keeps its length
pub written_length : (xs : List ℕ) (c c₁ : Collector) → Written xs c c₁ → length c₁.slots.now ≡ length c.slots.now
written_length xs c c₁ h = ap length h.writes ∙ length-sets c.slots.now c.count (small xs)

-- those that fit are written, and then others
pub writes_two : (xs ys : List ℕ) (c c₁ c₂ : Collector) → Writes xs c c₁ → Writes ys c₁ c₂ → Writes (xs ++ ys) c c₂
writes_two xs ys c c₁ c₂ h g f =
    let k = length_small xs ys in
    let w = h (omega (arith, f, k)) in
    written_two xs ys c c₁ c₂ w (g (omega (arith, f, k, w.counts, written_length xs c c₁ w)))

-- there is room for the first
room_left : (xs ys : List ℕ) (c : Collector) → Room (xs ++ ys) c → Room xs c
room_left xs ys c h = record { low = all_left Low xs ys h.low; fits = omega (arith, h.fits, length_small xs ys) }

-- behind those that are written there is room for the others
room_right : (xs ys : List ℕ) (c c₁ : Collector) → Room (xs ++ ys) c → Written xs c c₁ → Room ys c₁
room_right xs ys c c₁ h w =
    record { low = all_right Low xs ys h.low; fits = omega (arith, h.fits, length_small xs ys, w.counts, written_length xs c c₁ w) }

-- the loans stay the same from call to call
pub same_two : (c c₁ c₂ : Collector) → SameLoans c c₁ → SameLoans c₁ c₂ → SameLoans c c₂
same_two c c₁ c₂ h g = record { text = g.text ∙ h.text; table = g.table ∙ h.table }

-- what stands in the text stands in it still
stands_same : (c c₁ : Collector) (p : ℕ) (bs : List ℕ) → SameLoans c c₁ → Stands c.text.now p bs → Stands c₁.text.now p bs
stands_same c c₁ p bs h s = subst (λ (t : List ℕ). Stands t p bs) (sym (λ i. (h.text i).now)) s

-- a walk that has come to stop goes on over what stands there
pub further : (c c₁ c₂ : Collector) (left stop end₁ end₂ : ℕ) (xs bs ys : List ℕ) → SameLoans c c₁ → Collects xs stop c c₁ end₁ → Room (xs ++ ys) c →
    Stands c.text.now stop bs → length bs ≤ left → Walk c₁ end₁ left c₂ end₂ bs ys → Collects (xs ++ ys) (stop + length bs) c c₂ end₂
further c c₁ c₂ left stop end₁ end₂ xs bs ys same h room s l walk =
    let m = room_right xs ys c c₁ room h.written in
    let g = walk (record { stands = stands_same c c₁ end₁ bs same (subst (λ (p : ℕ). Stands c.text.now p bs) (sym h.stops) s); enough = l; room = m }) in
    record { written = written_two xs ys c c₁ c₂ h.written g.written; stops = omega (arith, g.stops, h.stops) }

-- a walk over the first byte, or the first bytes
begun : (c : Collector) (stop p : ℕ) → p ≡ stop → Collects [] stop c c p
begun c stop p e = record { written = written_none c; stops = e }

-- it has collected those of the whole, and is behind it
ended : (c c₁ : Collector) (stop stop₁ end : ℕ) (xs ms : List ℕ) → ms ≡ xs → stop ≡ stop₁ → Collects xs stop c c₁ end → Collects ms stop₁ c c₁ end
ended c c₁ stop stop₁ end xs ms e l h = record { written = subst (λ (ys : List ℕ). Written ys c c₁) (sym e) h.written; stops = h.stops ∙ l }

-- nothing was changed
same_refl : (c : Collector) → SameLoans c c
same_refl c = record { text = refl; table = refl }

-- k bytes without thresholds
pub no_part : {c : Collector} {pos left p : ℕ} {bs ms : List ℕ} (k : ℕ) → Ready c pos left bs ms → p ≡ pos + k → length bs ≡ k → ms ≡ [] → Collects ms (pos + length bs) c c p
no_part {c = c} {pos = pos} {left = left} {p = p} {bs = bs} {ms = ms} k h e l i = ended c c (pos + k) (pos + length bs) p [] ms i (omega arith) (begun c (pos + k) p e)

-- k bytes with thresholds of their own
pub leaf : {c c₁ : Collector} {pos left p : ℕ} {bs ms xs : List ℕ} (k : ℕ) → Ready c pos left bs ms → p ≡ pos + k → length bs ≡ k → ms ≡ xs →
    Writes xs c c₁ → Collects ms (pos + length bs) c c₁ p
leaf {c = c} {c₁ = c₁} {pos = pos} {left = left} {p = p} {bs = bs} {ms = ms} {xs = xs} k h e l i write =
    let m = subst (λ (ys : List ℕ). Room ys c) i h.room in
    record { written = subst (λ (ys : List ℕ). Written ys c c₁) (sym i) (write m.fits); stops = omega arith }

-- k bytes and one part
pub one_part : {c c₁ : Collector} {pos left p end : ℕ} {bs ms as₁ xs : List ℕ} (k : ℕ) → Ready c pos left bs ms → p ≡ pos + k → 0 < k →
    length bs ≡ k + length as₁ → ms ≡ xs → Stands c.text.now (pos + k) as₁ → Walk c p (left - 1) c₁ end as₁ xs → Collects ms (pos + length bs) c c₁ end
one_part {c = c} {c₁ = c₁} {pos = pos} {left = left} {p = p} {end = end} {bs = bs} {ms = ms} {as₁ = as₁} {xs = xs} k h e k0 l i s walk =
    let m = subst (λ (ys : List ℕ). Room ys c) i h.room in
    let one = further c c c₁ (left - 1) (pos + k) p end [] as₁ xs (same_refl c) (begun c (pos + k) p e) m s (omega (arith, h.enough)) walk in
    ended c c₁ (pos + k + length as₁) (pos + length bs) end xs ms i (omega arith) one

-- k bytes and two parts
pub two_parts : {c c₁ c₂ : Collector} {pos left p end₁ end₂ : ℕ} {bs ms as₁ xs cs ys : List ℕ} (k : ℕ) → Ready c pos left bs ms → p ≡ pos + k → 0 < k →
    length bs ≡ k + length as₁ + length cs → ms ≡ xs ++ ys → Stands c.text.now (pos + k) as₁ → Stands c.text.now (pos + k + length as₁) cs →
    SameLoans c c₁ → Walk c p (left - 1) c₁ end₁ as₁ xs → Walk c₁ end₁ (left - 1) c₂ end₂ cs ys → Collects ms (pos + length bs) c c₂ end₂
two_parts {c = c} {c₁ = c₁} {c₂ = c₂} {pos = pos} {left = left} {p = p} {end₁ = end₁} {end₂ = end₂} {bs = bs} {ms = ms} {as₁ = as₁} {xs = xs} {cs = cs} {ys = ys} k h e k0 l i s t same walk walk₁ =
    let m = subst (λ (zs : List ℕ). Room zs c) i h.room in
    let one = further c c c₁ (left - 1) (pos + k) p end₁ [] as₁ xs (same_refl c) (begun c (pos + k) p e) (room_left xs ys c m) s (omega (arith, h.enough)) walk in
    let two = further c c₁ c₂ (left - 1) (pos + k + length as₁) end₁ end₂ xs cs ys same one m t (omega (arith, h.enough)) walk₁ in
    ended c c₂ (pos + k + length as₁ + length cs) (pos + length bs) end₂ (xs ++ ys) ms i (omega arith) two

-- k bytes and three parts
pub three_parts : {c c₁ c₂ c₃ : Collector} {pos left p end₁ end₂ end₃ : ℕ} {bs ms as₁ xs cs ys ds zs : List ℕ} (k : ℕ) → Ready c pos left bs ms → p ≡ pos + k → 0 < k →
    length bs ≡ k + length as₁ + length cs + length ds → ms ≡ xs ++ ys ++ zs →
    Stands c.text.now (pos + k) as₁ → Stands c.text.now (pos + k + length as₁) cs → Stands c.text.now (pos + k + length as₁ + length cs) ds →
    SameLoans c c₁ → SameLoans c₁ c₂ → Walk c p (left - 1) c₁ end₁ as₁ xs → Walk c₁ end₁ (left - 1) c₂ end₂ cs ys → Walk c₂ end₂ (left - 1) c₃ end₃ ds zs →
    Collects ms (pos + length bs) c c₃ end₃
three_parts {c = c} {c₁ = c₁} {c₂ = c₂} {c₃ = c₃} {pos = pos} {left = left} {p = p} {end₁ = end₁} {end₂ = end₂} {end₃ = end₃} {bs = bs} {ms = ms} {as₁ = as₁} {xs = xs} {cs = cs} {ys = ys} {ds = ds} {zs = zs} k h e k0 l i s t u same same₁ walk walk₁ walk₂ =
    let m = subst (λ (vs : List ℕ). Room vs c) i h.room in
    let n = room_left (xs ++ ys) zs c m in
    let one = further c c c₁ (left - 1) (pos + k) p end₁ [] as₁ xs (same_refl c) (begun c (pos + k) p e) (room_left xs ys c n) s (omega (arith, h.enough)) walk in
    let two = further c c₁ c₂ (left - 1) (pos + k + length as₁) end₁ end₂ xs cs ys same one n t (omega (arith, h.enough)) walk₁ in
    let three = further c c₂ c₃ (left - 1) (pos + k + length as₁ + length cs) end₂ end₃ (xs ++ ys) ds zs (same_two c c₁ c₂ same same₁) two m u (omega (arith, h.enough)) walk₂ in
    ended c c₃ (pos + k + length as₁ + length cs + length ds) (pos + length bs) end₃ (xs ++ ys ++ zs) ms i (omega arith) three

-- where something stands, there are bytes left and the text goes on
pub inside : {c : Collector} {pos left : ℕ} {bs ms : List ℕ} → Ready c pos left bs ms → 0 < length bs → (0 < left) × (pos + length bs ≤ length c.text.now)
inside {bs = []} h l = absurd (omega arith)
inside {c = c} {pos = pos} {bs = b ∷ bs} h l = (omega (arith, h.enough), stands_within c.text.now pos b bs h.stands)

-- so no walk over something ends for want of bytes
pub nowhere : {c c₁ : Collector} {pos left end : ℕ} {bs ms : List ℕ} → Ready c pos left bs ms → 0 < length bs →
    (left ≡ 0) ⊎ (length c.text.now ≤ pos) → Collects ms (pos + length bs) c c₁ end
nowhere h l e = let i = inside h l in absurd (omega (arith, i, e))
