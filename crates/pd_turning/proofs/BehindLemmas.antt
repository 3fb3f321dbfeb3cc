-- What stands behind a wire of a list in its fan-out.
use Rattle.std.proofs.Common.{◌≡◌, ℕ, zero, suc, ◌+◌, ◌<◌, ◌==◌, false, cond, List, [], ◌∷◌, ◌++◌, length, slice_get, Some, refl, sym, ap, ◌∙◌, eqb-true, eq-eqb, arith}
use Rattle.std.proofs.lemmas.Option.{none-some, same_Some}
use Rattle.pd_web.specs.declared.lines.Line.{Line}
use Rattle.pd_web.specs.declared.web.Hop.{Hop}
use Rattle.pd_web.specs.declared.web.Web.{Web}
use Rattle.pd_web.specs.Hops.{fan_hops}
use Rattle.pd_web.specs.Changes.{hop_at, line_told}
use Rattle.pd_taking.specs.Loosening.{line_at}
use Rattle.pd_grove.specs.declared.ports.Side.TheVariants.{Outlets}
use Rattle.pd_misfits.specs.declared.wires.BoxWire.{BoxWire}
use Rattle.pd_misfits.specs.Shedding.{is_left, AreWiresAt, IsWired}
use Rattle.pd_turning.specs.Notes.{behind, first_of, hops_behind, FollowFans, StandOnce}
use Rattle.pd_turning.proofs.ListLemmas.{by_cases, get_right, get_seam, parts_at}

-- no wire of these has the key
abbrev pub Lacks : List Hop → ℕ → Type 0
Lacks hops k = (i : ℕ) (h : Hop) → slice_get hops i ≡ Some h → h.key ≡ k → ⊥

behind_seam : (k : ℕ) (ahead rest : List Hop) (h : Hop) → Lacks ahead k → h.key ≡ k → behind k (ahead ++ h ∷ rest) ≡ rest
behind_seam k [] rest h lacks e = ap (λ b. cond b rest (behind k rest)) (eq-eqb h.key k e)
behind_seam k (x ∷ ahead) rest h lacks e = by_cases (x.key == k)
    (λ t. absurd (lacks 0 x refl (eqb-true x.key k t)))
    (λ t. ap (λ b. cond b (ahead ++ h ∷ rest) (behind k (ahead ++ h ∷ rest))) t ∙ behind_seam k ahead rest h (λ i y at. lacks (suc i) y at) e)

get_before : (xs ys : List Hop) (i : ℕ) (h : Hop) → slice_get xs i ≡ Some h → (slice_get (xs ++ ys) i ≡ Some h) × (i < length xs)
get_before [] ys i h e = absurd (none-some h e)
get_before (x ∷ xs) ys zero h e = (e, omega arith)
get_before (x ∷ xs) ys (suc i) h e = let r = get_before xs ys i h e in let l = r.1 in (r.0, omega (arith, l))

-- a hop of a fan-out, and what stands before and behind it
pub record Fanned (w : Web) (node outlet : ℕ) (h : Hop) : Type 0 where
  pub ahead : List Hop
  pub rest : List Hop
  pub parts : fan_hops w node outlet ≡ ahead ++ h ∷ rest
  pub lacks : Lacks ahead h.key
  pub lacks_too : Lacks rest h.key
  pub is_behind : behind h.key (fan_hops w node outlet) ≡ rest

module _ (w : Web) (node outlet : ℕ) (h : Hop) (ahead rest : List Hop) (once : StandOnce w) (parts : fan_hops w node outlet ≡ ahead ++ h ∷ rest) where
  here : slice_get (fan_hops w node outlet) (length ahead) ≡ Some h
  here = ap (λ (xs : List Hop). slice_get xs (length ahead)) parts ∙ get_seam ahead (h ∷ rest)

  none_ahead : Lacks ahead h.key
  none_ahead i x at e =
      let r = get_before ahead (h ∷ rest) i x at in
      let l = r.1 in
      let same = once node outlet i (length ahead) x h (ap (λ (xs : List Hop). slice_get xs i) parts ∙ r.0) here e in
      omega (arith, l, same)

  none_behind : Lacks rest h.key
  none_behind i x at e =
      let same = once node outlet (length ahead + suc i) (length ahead) x h (ap (λ (xs : List Hop). slice_get xs (length ahead + suc i)) parts ∙ get_right ahead (h ∷ rest) (suc i) ∙ at) here e in
      omega (arith, same)

  pub behind_is : behind h.key (fan_hops w node outlet) ≡ rest
  behind_is = ap (behind h.key) parts ∙ behind_seam h.key ahead rest h none_ahead refl

  pub fanned_by : Fanned w node outlet h
  fanned_by = record { ahead = ahead; rest = rest; parts = parts; lacks = none_ahead; lacks_too = none_behind; is_behind = behind_is }

pub fanned_at : (w : Web) (node outlet i : ℕ) (h : Hop) → StandOnce w → slice_get (fan_hops w node outlet) i ≡ Some h → Fanned w node outlet h
fanned_at w node outlet i h once at = let P = parts_at (fan_hops w node outlet) i h at in fanned_by w node outlet h P.ahead P.rest once P.parts

-- A wire of the list.

abbrev pub hop_of : BoxWire → Hop
hop_of m = hop_at m.key m.line.sink m.line.inlet

module _ (w : Web) (box : ℕ) (ms : List BoxWire) (A : AreWiresAt w box ms) (F : FollowFans w ms) (W : IsWired w) (once : StandOnce w) where
  pub wire_fanned : (i : ℕ) (m : BoxWire) → slice_get ms i ≡ Some m → Fanned w m.line.source m.line.outlet (hop_of m)
  wire_fanned i m at = let L = A.along i m at in fanned_at w m.line.source m.line.outlet L.place (hop_of m) once L.stands

  pub wire_told : (i : ℕ) (m : BoxWire) → slice_get ms i ≡ Some m → line_told w m.key ≡ Some m.line
  wire_told i m at = let L = A.along i m at in W.fans m.line.source m.line.outlet L.place (hop_of m) L.stands

  -- a wire of a fan-out that is one of the list leads along its line
  pub line_same : (node outlet i place : ℕ) (h : Hop) (n : BoxWire) → slice_get (fan_hops w node outlet) place ≡ Some h → slice_get ms i ≡ Some n → n.key ≡ h.key → n.line ≡ line_at Outlets node outlet h
  line_same node outlet i place h n at is e = same_Some n.line (line_at Outlets node outlet h) (sym (wire_told i n is) ∙ ap (line_told w) e ∙ W.fans node outlet place h at)

  -- the wire behind one of the list is the next of the list, if it is one of it
  pub record NextIs (i : ℕ) (m : BoxWire) (h : Hop) (rest : List Hop) : Type 0 where
    pub of : BoxWire
    pub at : slice_get ms (i + 1) ≡ Some of
    pub key : of.key ≡ h.key
    pub source : of.line.source ≡ m.line.source
    pub outlet : of.line.outlet ≡ m.line.outlet
    pub is_behind : hops_behind w of ≡ rest

  pub next_is : (i : ℕ) (m : BoxWire) (h : Hop) (rest : List Hop) → slice_get ms i ≡ Some m → hops_behind w m ≡ h ∷ rest → is_left ms h ≡ false → NextIs i m h rest
  next_is i m h rest at is gone =
      let B = wire_fanned i m at in
      let found : first_of ms (hops_behind w m) ≡ Some h.key = ap (first_of ms) is ∙ ap (λ b. cond b (first_of ms rest) (Some h.key)) gone in
      let n = F i m h.key at found in
      let parts : fan_hops w m.line.source m.line.outlet ≡ B.ahead ++ hop_of m ∷ h ∷ rest = B.parts ∙ ap (λ (xs : List Hop). B.ahead ++ hop_of m ∷ xs) (sym B.is_behind ∙ is) in
      let place : slice_get (fan_hops w m.line.source m.line.outlet) (length B.ahead + 1) ≡ Some h =
      ap (λ (xs : List Hop). slice_get xs (length B.ahead + 1)) parts ∙ get_right B.ahead (hop_of m ∷ h ∷ rest) 1 in
      let line = line_same m.line.source m.line.outlet (i + 1) (length B.ahead + 1) h n.0 place n.1 n.2 in
      let split : fan_hops w m.line.source m.line.outlet ≡ (B.ahead ++ hop_of m ∷ []) ++ h ∷ rest = parts ∙ moved B.ahead (hop_of m) (h ∷ rest) in
      record {
        of = n.0;
        at = n.1;
        key = n.2;
        source = ap (λ (l : Line). l.source) line;
        outlet = ap (λ (l : Line). l.outlet) line;
        is_behind =
            ap (λ (l : Line). behind n.0.key (fan_hops w l.source l.outlet)) line ∙ ap (λ k. behind k (fan_hops w m.line.source m.line.outlet)) n.2
            ∙ behind_is w m.line.source m.line.outlet h (B.ahead ++ hop_of m ∷ []) rest once split;
      }
    where
      moved : (xs : List Hop) (x : Hop) (ys : List Hop) → xs ++ x ∷ ys ≡ (xs ++ x ∷ []) ++ ys
      moved [] x ys = refl
      moved (z ∷ xs) x ys = ap (λ (zs : List Hop). z ∷ zs) (moved xs x ys)
