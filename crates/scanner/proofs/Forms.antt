-- Scans of parts make a scan of the whole. Rests on what is proved of bytes that stand in a text.
use Rattle.std.proofs.Common.{◌≡◌, ℕ, ◌+◌, Bool, true, List, ◌∷◌, ◌++◌, length, get_or, Some, None, Option, sym, refl, ◌∙◌, subst, add_assoc, arith, length-append}
use Rattle.std.proofs.lemmas.Bool.{and_parts, and_from}
use Rattle.std.specs.Option.{option_map}
use Rattle.encoding.specs.Standing.{Stands}
use Rattle.encoding.proofs.Standing.{stands_two, stands_join, stands_first, stands_cons}
use Rattle.scanner.specs.Bytes.{ByteAt}
use Rattle.scanner.specs.Form.{Form, followed, Here, Answered, Scanned}

module _ {V W R S : Type 0} (F : Form V R) (G : V → Form W S) (text : List ℕ) (pos : ℕ) where
  -- the first of two, and the second
  first_here : (p : V × W) → Here (followed F G) text pos p → Here F text pos p.0
  first_here p h = record { passes = (and_parts (F.passes p.0) _ h.passes).0; stands = (stands_two text pos (F.bytes p.0) _ h.stands).0 }

  second_here : (p : V × W) → Here (followed F G) text pos p → Here (G p.0) text (pos + length (F.bytes p.0)) p.1
  second_here p h = record { passes = (and_parts (F.passes p.0) _ h.passes).1; stands = (stands_two text pos (F.bytes p.0) _ h.stands).1 }

  both_here : (v : V) (w : W) → Here F text pos v → Here (G v) text (pos + length (F.bytes v)) w → Here (followed F G) text pos (v, w)
  both_here v w h k = record {
    passes = and_from (F.passes v) ((G v).passes w) h.passes k.passes;
    stands = stands_join text pos (F.bytes v) ((G v).bytes w) h.stands k.stands;
  }

  both_answered : (v : V) (w : W) (s : S) → Answered (G v) (pos + length (F.bytes v)) w s → Answered (followed F G) pos (v, w) s
  both_answered v w s a =
      let e : pos + length (F.bytes v) + length ((G v).bytes w) ≡ pos + length (F.bytes v ++ (G v).bytes w) = simp length-append (add_assoc pos (length (F.bytes v)) (length ((G v).bytes w))) in
      subst (λ (stop : ℕ). (G v).answer stop w s) e a

  -- a first: both as the second behind it
  pub then_second : (r : R) (o : Option S) → Scanned F text pos (Some r) → ((v : V) → Answered F pos v r → Scanned (G v) text (pos + length (F.bytes v)) o) → Scanned (followed F G) text pos o
  then_second r None h k = λ p at. k p.0 (h.1 p.0 (first_here p at)) p.1 (second_here p at)
  then_second r (Some s) h k =
      let v = h.0.0 in
      let q = k v h.0.1.1 in (
        ((v, q.0.0), (both_here v q.0.0 h.0.1.0 q.0.1.0, both_answered v q.0.0 s q.0.1.1)),
        λ p at. both_answered p.0 p.1 s ((k p.0 (h.1 p.0 (first_here p at))).1 p.1 (second_here p at)),
      )

-- no first: none of both
pub no_first : {V W R S : Type 0} (F : Form V R) (G : V → Form W S) {text : List ℕ} {pos : ℕ} → Scanned F text pos None → Scanned (followed F G) text pos None
no_first F G {text} {pos} h p k = h p.0 (first_here F G text pos p k)

-- the second is looked for where the first ends
pub then_plain : {V W S : Type 0} (F : Form V ℕ) (G : Form W S) {text : List ℕ} {pos mid : ℕ} (o : Option S) → ((stop : ℕ) (v : V) (r : ℕ) → F.answer stop v r → r ≡ stop) →
    Scanned F text pos (Some mid) → Scanned G text mid o → Scanned (followed F (λ v. G)) text pos o
then_plain F G {text} {pos} {mid} o ends h k = then_second F (λ v. G) text pos mid o h (λ v a. subst (λ (m : ℕ). Scanned G text m o) (ends _ v mid a) k)

-- another answer of the same values
pub answered : {V R S : Type 0} (p : V → Bool) (b : V → List ℕ) (f : ℕ → V → R → Type 0) (g : ℕ → V → S → Type 0) (finish : R → S) (text : List ℕ) (pos : ℕ) (o : Option R) →
    ((stop : ℕ) (v : V) (r : R) → f stop v r → g stop v (finish r)) →
    Scanned (record { passes = p; bytes = b; answer = f }) text pos o → Scanned (record { passes = p; bytes = b; answer = g }) text pos (option_map finish o)
answered p b f g finish text pos None k h = λ v at. h v (record { passes = at.passes; stands = at.stands })
answered p b f g finish text pos (Some r) k h =
    ((h.0.0, (record { passes = h.0.1.0.passes; stands = h.0.1.0.stands }, k _ h.0.0 r h.0.1.1)), λ v at. k _ v r (h.1 v (record { passes = at.passes; stands = at.stands })))

pub byte_is : {text : List ℕ} {pos b k : ℕ} → ByteAt text pos b → b ≡ k → ByteAt text pos k
byte_is {text} {pos} h e = subst (λ (a : ℕ). ByteAt text pos a) e h

-- the values of F, each behind the byte k, are just the values of G that begin with it
pub record Tagged {V W R S : Type 0} (F : Form V R) (G : Form W S) (k : ℕ) (make : V → W) (finish : R → S) : Type 0 where
  pub passes : (v : V) → G.passes (make v) ≡ F.passes v
  pub bytes : (v : V) → G.bytes (make v) ≡ k ∷ F.bytes v
  pub answer : (stop : ℕ) (v : V) (r : R) → F.passes v ≡ true → F.answer stop v r → G.answer stop (make v) (finish r)
  pub back : (text : List ℕ) (pos : ℕ) (w : W) → Stands text pos (G.bytes w) → get_or text pos 0 ≡ k → (v : V) × (make v ≡ w)

module _ {V W R S : Type 0} {F : Form V R} {G : Form W S} {k : ℕ} {make : V → W} {finish : R → S} (t : Tagged F G k make finish) {text : List ℕ} {pos : ℕ} (h : ByteAt text pos k) where
  made_here : (v : V) → Here F text (pos + 1) v → Here G text pos (make v)
  made_here v at = record {
    passes = t.passes v ∙ at.passes;
    stands = subst (λ (bs : List ℕ). Stands text pos bs) (sym (t.bytes v)) (stands_cons text pos (pos + 1) k (F.bytes v) h.inside h.is refl at.stands);
  }

  made_answered : (v : V) (r : R) → Here F text (pos + 1) v → Answered F (pos + 1) v r → Answered G pos (make v) (finish r)
  made_answered v r at a =
      let e : pos + 1 + length (F.bytes v) ≡ pos + length (G.bytes (make v)) = rw (t.bytes v) (omega arith) in
      subst (λ (stop : ℕ). G.answer stop (make v) (finish r)) e (t.answer _ v r at.passes a)

  part_here : (v : V) → Here G text pos (make v) → Here F text (pos + 1) v
  part_here v at = record {
    passes = sym (t.passes v) ∙ at.passes;
    stands = (stands_first text pos k (F.bytes v) (subst (λ (bs : List ℕ). Stands text pos bs) (t.bytes v) at.stands)).1;
  }

  -- every value of G at the position is made of one of F behind the byte
  whole_by : (P : W → Type 0) → ((v : V) → Here F text (pos + 1) v → P (make v)) → (w : W) → Here G text pos w → P w
  whole_by P p w at =
      let q = t.back text pos w at.stands h.is in
      subst P q.1 (p q.0 (part_here q.0 (subst (λ (w₁ : W). Here G text pos w₁) (sym q.1) at)))

  pub made : (o : Option R) → Scanned F text (pos + 1) o → Scanned G text pos (option_map finish o)
  made None s = whole_by (λ w. ⊥) s
  made (Some r) s = (
    (make s.0.0, (made_here s.0.0 s.0.1.0, made_answered s.0.0 r s.0.1.0 s.0.1.1)),
    whole_by (λ w. Answered G pos w (finish r)) (λ v at. made_answered v r at (s.1 v at)),
  )

-- the same answer
pub made_same : {V W R : Type 0} {F : Form V R} {G : Form W R} {k : ℕ} {make : V → W} (t : Tagged F G k make (λ r. r)) {text : List ℕ} {pos : ℕ} (h : ByteAt text pos k) (o : Option R) →
    Scanned F text (pos + 1) o → Scanned G text pos o
made_same t h None s = made t h None s
made_same t h (Some r) s = made t h (Some r) s
