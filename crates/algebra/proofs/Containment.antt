-- The containment lemma: where the cap of b and E lies in that of f and G, f reaches by G every direction p that b reaches by E. With
-- S = b·b − E² and M = f·b − G E: |S f − M b|² ≤ (M E − S G)², so that S (f·p) ≥ M (b·p) − (M E − S G) |p| ≥ S G |p|. Assumes nothing.
use mathlib.Core.Path.{refl}
use mathlib.Core.List.{[], ◌∷◌}
use lib.IntN.{ℤ, pos, ◌+ℤ◌, ◌-ℤ◌, ◌*ℤ◌}
use lib.Signed.{◌≤ℤ◌, ◌<ℤ◌}
use Rattle.algebra.proofs.Ring.{con, ◌:+◌, ◌:-◌, ◌:*◌}
use Rattle.algebra.proofs.Order.{nn_mul, ≤ℤ-trans}
use Rattle.algebra.proofs.Claim.{◌:≤◌, ◌:<◌, hyp, sq, ◌⊕◌, ◌⊗◌, prove}
use Rattle.algebra.proofs.Inequalities.{`0, <ℤ→≤ℤ, sq-≤ℤ, sq_mono, cancel-≤ℤ, cancel_nn, <ℤ-mul}
use Rattle.algebra.proofs.Vec.{V3, dot, dot_nn, difference_bound}
use Rattle.algebra.proofs.Cone.{Reaches}

-- ---- of numbers: N = p·p, F = f·p, B = b·p, c = f·b, a = f·f, b = b·b

-- (S F − M B)² ≤ (M E − S G)² N
across : (N F B a b c G E : ℤ) → pos 0 ≤ℤ N
    → (let S = b -ℤ E *ℤ E in let M = c -ℤ G *ℤ E in
    ((S *ℤ F -ℤ M *ℤ B) *ℤ (S *ℤ F -ℤ M *ℤ B)) ≤ℤ ((S *ℤ S *ℤ a -ℤ pos 2 *ℤ S *ℤ M *ℤ c +ℤ M *ℤ M *ℤ b) *ℤ N)
    → pos 0 ≤ℤ S → ((a -ℤ G *ℤ G) *ℤ S) ≤ℤ (M *ℤ M)
    → ((S *ℤ F -ℤ M *ℤ B) *ℤ (S *ℤ F -ℤ M *ℤ B)) ≤ℤ ((M *ℤ E -ℤ S *ℤ G) *ℤ (M *ℤ E -ℤ S *ℤ G) *ℤ N))
across = prove 8
    (λ N F B a b c G E.
    let S = b :- E :* E in
    let M = c :- G :* E in
    record {
      given = (`0 :≤ N) ∷ ((S :* F :- M :* B) :* (S :* F :- M :* B) :≤ (S :* S :* a :- con (pos 2) :* S :* M :* c :+ M :* M :* b) :* N)
          ∷ (`0 :≤ S) ∷ ((a :- G :* G) :* S :≤ M :* M) ∷ [];
      goal = (S :* F :- M :* B) :* (S :* F :- M :* B) :≤ (M :* E :- S :* G) :* (M :* E :- S :* G) :* N;
      cert = hyp 1 ⊕ hyp 0 ⊗ hyp 2 ⊗ hyp 3;
    })
    refl

-- with T = M E − S G: (M E)(M B − S F) ≤ T M B
turned : (N F B S M G E : ℤ) → pos 0 ≤ℤ M → pos 0 ≤ℤ B → pos 0 ≤ℤ (M *ℤ E -ℤ S *ℤ G) → (E *ℤ E *ℤ N) ≤ℤ (B *ℤ B)
    → ((S *ℤ F -ℤ M *ℤ B) *ℤ (S *ℤ F -ℤ M *ℤ B)) ≤ℤ ((M *ℤ E -ℤ S *ℤ G) *ℤ (M *ℤ E -ℤ S *ℤ G) *ℤ N)
    → (M *ℤ E *ℤ (M *ℤ B -ℤ S *ℤ F)) ≤ℤ ((M *ℤ E -ℤ S *ℤ G) *ℤ (M *ℤ B))
turned N F B S M G E m hB t e h = sq-≤ℤ (nn_mul t (nn_mul m hB))
    (prove 7
    (λ N F B S M G E.
    let T = M :* E :- S :* G in
    let Y = M :* B :- S :* F in
    record {
      given = (E :* E :* N :≤ B :* B) ∷ ((S :* F :- M :* B) :* (S :* F :- M :* B) :≤ T :* T :* N) ∷ [];
      goal = M :* E :* Y :* (M :* E :* Y) :≤ T :* (M :* B) :* (T :* (M :* B));
      cert = sq (T :* M) ⊗ hyp 0 ⊕ sq (M :* E) ⊗ hyp 1;
    })
    refl N F B S M G E e h)

-- so (S G)(M B) ≤ (M E)(S F)
ahead_of : (F B S M G E : ℤ) → (M *ℤ E *ℤ (M *ℤ B -ℤ S *ℤ F)) ≤ℤ ((M *ℤ E -ℤ S *ℤ G) *ℤ (M *ℤ B)) → (S *ℤ G *ℤ (M *ℤ B)) ≤ℤ (M *ℤ E *ℤ S *ℤ F)
ahead_of = prove 6
    (λ F B S M G E. record {
      given = (M :* E :* (M :* B :- S :* F) :≤ (M :* E :- S :* G) :* (M :* B)) ∷ [];
      goal = S :* G :* (M :* B) :≤ M :* E :* S :* F;
      cert = hyp 0;
    })
    refl

positive_edge : (S M G E : ℤ) → pos 0 <ℤ S → pos 0 <ℤ G → pos 0 ≤ℤ (M *ℤ E -ℤ S *ℤ G) → pos 0 <ℤ (M *ℤ E)
positive_edge = prove 4
    (λ S M G E. record {
      given = (`0 :< S) ∷ (`0 :< G) ∷ (`0 :≤ M :* E :- S :* G) ∷ [];
      goal = `0 :< M :* E;
      cert = hyp 2 ⊕ hyp 0 ⊗ hyp 1 ⊕ hyp 0 ⊕ hyp 1;
    })
    refl

-- W = M E S: from ((S G)(M B))² ≤ (W F)²
squared : (N F B S M G E : ℤ) → (E *ℤ E *ℤ N) ≤ℤ (B *ℤ B) → (S *ℤ G *ℤ (M *ℤ B) *ℤ (S *ℤ G *ℤ (M *ℤ B))) ≤ℤ (M *ℤ E *ℤ S *ℤ F *ℤ (M *ℤ E *ℤ S *ℤ F))
    → (M *ℤ E *ℤ S *ℤ (M *ℤ E *ℤ S) *ℤ (G *ℤ G *ℤ N)) ≤ℤ (M *ℤ E *ℤ S *ℤ (M *ℤ E *ℤ S) *ℤ (F *ℤ F))
squared = prove 7
    (λ N F B S M G E. record {
      given = (E :* E :* N :≤ B :* B) ∷ (S :* G :* (M :* B) :* (S :* G :* (M :* B)) :≤ M :* E :* S :* F :* (M :* E :* S :* F)) ∷ [];
      goal = M :* E :* S :* (M :* E :* S) :* (G :* G :* N) :≤ M :* E :* S :* (M :* E :* S) :* (F :* F);
      cert = sq (S :* G :* M) ⊗ hyp 0 ⊕ hyp 1;
    })
    refl

-- ---- the lemma

pub containment : (f b p : V3) (G E : ℤ) → Reaches b p E → pos 0 <ℤ G → pos 0 <ℤ (dot b b -ℤ E *ℤ E) → pos 0 <ℤ (dot f b -ℤ G *ℤ E)
    → pos 0 ≤ℤ ((dot f b -ℤ G *ℤ E) *ℤ E -ℤ (dot b b -ℤ E *ℤ E) *ℤ G)
    → ((dot f f -ℤ G *ℤ G) *ℤ (dot b b -ℤ E *ℤ E)) ≤ℤ ((dot f b -ℤ G *ℤ E) *ℤ (dot f b -ℤ G *ℤ E)) → Reaches f p G
containment f b p G E near g s m t h =
    let S = dot b b -ℤ E *ℤ E in
    let M = dot f b -ℤ G *ℤ E in
    let c = across (dot p p) (dot f p) (dot b p) (dot f f) (dot b b) (dot f b) G E (dot_nn p) (difference_bound S M f b p) (<ℤ→≤ℤ s) h in
    let front = ahead_of (dot f p) (dot b p) S M G E (turned (dot p p) (dot f p) (dot b p) S M G E (<ℤ→≤ℤ m) near.front t near.reach c) in
    let w : pos 0 <ℤ (M *ℤ E *ℤ S) = <ℤ-mul (positive_edge S M G E s g t) s in
    let n : pos 0 ≤ℤ (S *ℤ G *ℤ (M *ℤ dot b p)) = nn_mul (nn_mul (<ℤ→≤ℤ s) (<ℤ→≤ℤ g)) (nn_mul (<ℤ→≤ℤ m) near.front) in
    record {
      front = cancel_nn w (≤ℤ-trans n front);
      reach = cancel-≤ℤ (<ℤ-mul w w) (squared (dot p p) (dot f p) (dot b p) S M G E near.reach (sq_mono n front));
    }
