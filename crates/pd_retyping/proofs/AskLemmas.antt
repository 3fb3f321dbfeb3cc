-- Which box an edit makes another one, and the edit that would put what it becomes.
use Rattle.std.proofs.Common.{◌≡◌, ℕ, Bool, true, false, cond, nat_lt, ◌&&◌, not, if◌then◌else◌, List, length, slice_get, Some, None, Result, Ok, Err, refl, sym, ap, ◌∙◌, subst}
use Rattle.std.proofs.lemmas.Option.{same_Some}
use Rattle.slab.specs.Slab.{get}
use Rattle.pd_atom.specs.declared.Atom.{Atom}
use Rattle.pd_atom.specs.Names.{Names}
use Rattle.pd_canvas.specs.Pages.{Shape, Obj, Msg, Comment, FloatBox, SymbolBox, Sub, Array, Other, Entry, Head, empty_page, page_with_header}
use Rattle.pd_canvas.specs.Edits.{begins_with_pd, element, new_header, object, retyped, retyped_as, takes_text}
use Rattle.pd_canvas.specs.Views.{entry_of}
use Rattle.pd_grove.specs.declared.nodes.Node.{Node}
use Rattle.pd_grove.specs.OwnPaths.{sub_reached}
use Rattle.pd_grove.specs.TextOrder.{is_sub}
use Rattle.pd_web.specs.Canvases.{keys_at}
use Rattle.pd_patch.specs.declared.patch.Patch.{Patch}
use Rattle.pd_wiring.specs.declared.refusals.EditRefusal.{EditRefusal}
use Rattle.pd_wiring.specs.declared.refusals.EditRefusal.TheVariants.{NoCanvas, NoBox, TextTooLong, TooDeep}
use Rattle.pd_adding.specs.Boxes.{settled_edit, box_put}
use Rattle.pd_adding.specs.Coming.{coming, coming_by, coming_in, IsComing}
use Rattle.pd_retyping.specs.Asking.{takes_text_so, keeps_inside, settled_text, retyping, retyping_in, retyping_box, retyping_node, retyping_to, IsRetyping, put_as, put_instead}
use Rattle.pd_retyping.specs.Retypes.{IsChosen}

-- ---- what an edit would put

-- the box that an edit would put in place of one of a form
abbrev pub entry_put : List Atom → Shape → Entry → Entry
entry_put text Msg e = element Msg empty_page e.head.x e.head.y text
entry_put text Comment e = element Comment empty_page e.head.x e.head.y text
entry_put text s e = object e.head.x e.head.y text

put_so : (names : Names) (s : Shape) (text : List Atom) (e : Entry) → box_put (settled_edit names (put_as s e.head.x e.head.y text)) ≡ Some (entry_put (settled_text names text) s e)
put_so names Obj text e = refl
put_so names Msg text e = refl
put_so names Comment text e = refl
put_so names FloatBox text e = refl
put_so names SymbolBox text e = refl
put_so names Sub text e = refl
put_so names (Array vs) text e = refl
put_so names (Other o) text e = refl

-- it has the text and the form of what the box becomes
sub_head : (text : List Atom) (e : Entry) (b : Bool) → (if b then element Sub (page_with_header (new_header text)) e.head.x e.head.y text else element Obj empty_page e.head.x e.head.y text).head
    ≡ (if b then element Sub e.page e.head.x e.head.y text else if b then element Sub (page_with_header (new_header text)) e.head.x e.head.y text else element Obj empty_page e.head.x e.head.y text).head
sub_head text e true = refl
sub_head text e false = refl

head_so : (s : Shape) (text : List Atom) (e : Entry) → takes_text s e.head.text ≡ true → (entry_put text s e).head ≡ (retyped_as s text e).head
head_so Obj text e t = refl
head_so Msg text e t = refl
head_so Comment text e t = refl
head_so FloatBox text e t = cc
head_so SymbolBox text e t = cc
head_so Sub text e t = sub_head text e (begins_with_pd text)
head_so (Array vs) text e t = cc
head_so (Other o) text e t = cc

-- and is that, where it isn't a subpatch that keeps what it holds
sub_so : (text : List Atom) (e : Entry) (b : Bool) → b ≡ false
    → object e.head.x e.head.y text ≡ (if b then element Sub e.page e.head.x e.head.y text else object e.head.x e.head.y text)
sub_so text e true h = cc
sub_so text e false h = refl

same_so : (s : Shape) (text : List Atom) (e : Entry) → takes_text s e.head.text ≡ true → (is_sub s && begins_with_pd text) ≡ false → entry_put text s e ≡ retyped_as s text e
same_so Obj text e t k = refl
same_so Msg text e t k = refl
same_so Comment text e t k = refl
same_so FloatBox text e t k = cc
same_so SymbolBox text e t k = cc
same_so Sub text e t k = sub_so text e (begins_with_pd text) k
same_so (Array vs) text e t k = cc
same_so (Other o) text e t k = cc

-- what keeps what it holds is a subpatch
kept_by : (a b : Bool) → (a && b) ≡ true → a ≡ true
kept_by true b h = refl
kept_by false b h = cc

pub kept_is_sub : (p : Patch) (key : ℕ) (node n : Node) (text : List Atom) (b : Bool) → get p.grove.nodes key ≡ Some node → b ≡ keeps_inside (entry_of node.element) text → b ≡ true
    → get p.grove.nodes key ≡ Some n → is_sub (entry_of n.element).head.form ≡ true
kept_is_sub p key node n text b was keeps t is =
    subst (λ (x : Node). is_sub (entry_of x.element).head.form ≡ true) (same_Some node n (sym was ∙ is))
    (kept_by (is_sub (entry_of node.element).head.form) (begins_with_pd text) (sym keeps ∙ t))

place : ℕ → Result (ℕ × Entry) EditRefusal → ℕ
place d (Ok x) = x.0
place d (Err why) = d

-- ---- the box of a number

module _ (names : Names) (p : Patch) (path : List ℕ) (number : ℕ) (text : List Atom) where
  abbrev depth : ℕ
  depth = length path

  abbrev written : List Atom
  written = settled_text names text

  pub no_canvas : sub_reached p.grove (Some p.grove.root) path ≡ None → retyping names p path number text ≡ Err NoCanvas
  no_canvas h = ap (retyping_in p.grove depth written number) h

  module _ (canvas : ℕ) (leads : sub_reached p.grove (Some p.grove.root) path ≡ Some canvas) where
    pub no_key : slice_get (keys_at p.grove canvas) number ≡ None → retyping names p path number text ≡ Err (NoBox number)
    no_key h = ap (retyping_in p.grove depth written number) leads ∙ ap (retyping_box p.grove depth written canvas number) h

    module _ (key : ℕ) (at : slice_get (keys_at p.grove canvas) number ≡ Some key) where
      pub no_node : get p.grove.nodes key ≡ None → retyping names p path number text ≡ Err (NoBox number)
      no_node h = ap (retyping_in p.grove depth written number) leads ∙ ap (retyping_box p.grove depth written canvas number) at
          ∙ ap (retyping_node depth written canvas number key) h

      node_by : (node : Node) → get p.grove.nodes key ≡ Some node → (b : Bool) → takes_text_so (entry_of node.element) ≡ b
          → retyping names p path number text ≡ cond b (retyping_to depth written canvas key (entry_of node.element)) (Err (NoBox number))
      node_by node is b h = ap (retyping_in p.grove depth written number) leads ∙ ap (retyping_box p.grove depth written canvas number) at
          ∙ ap (retyping_node depth written canvas number key) is ∙ ap (λ (x : Bool). cond x (retyping_to depth written canvas key (entry_of node.element)) (Err (NoBox number))) h

      pub no_text : (node : Node) → get p.grove.nodes key ≡ Some node → takes_text_so (entry_of node.element) ≡ false → retyping names p path number text ≡ Err (NoBox number)
      no_text node is h = node_by node is false h

  module _ (canvas key : ℕ) (node : Node) (C : IsChosen p path number canvas key node) where
    chosen_is : retyping names p path number text ≡ retyping_to depth written canvas key (entry_of node.element)
    chosen_is = node_by canvas C.leads key C.at node C.is true C.takes

    -- what would be put, and what the box becomes
    abbrev coming_box : Entry
    coming_box = entry_put written (entry_of node.element).head.form (entry_of node.element)

    abbrev becoming : Entry
    becoming = retyped written (entry_of node.element)

    pub put_entry : box_put (settled_edit names (put_instead (entry_of node.element) text)) ≡ Some coming_box
    put_entry = put_so names (entry_of node.element).head.form text (entry_of node.element)

    pub put_head : coming_box.head ≡ becoming.head
    put_head = head_so (entry_of node.element).head.form written (entry_of node.element) C.takes

    pub put_same : keeps_inside (entry_of node.element) written ≡ false → coming_box ≡ becoming
    put_same new = same_so (entry_of node.element).head.form written (entry_of node.element) C.takes new

    -- it comes as the box is made another one

    coming_is : coming names p path (put_instead (entry_of node.element) text) ≡ coming_in depth coming_box (Some canvas)
    coming_is = ap (coming_by p path) put_entry ∙ ap (coming_in depth coming_box) C.leads

    retyping_is : retyping names p path number text
        ≡ (if nat_lt 1024 (length coming_box.head.text) then Err TextTooLong else
        if is_sub coming_box.head.form && (not (keeps_inside (entry_of node.element) written) && nat_lt 254 depth) then Err TooDeep else Ok (canvas, (key, becoming)))
    retyping_is = chosen_is ∙ ap (λ (h : Head). if nat_lt 1024 (length h.text) then Err TextTooLong else
        if is_sub h.form && (not (keeps_inside (entry_of node.element) written) && nat_lt 254 depth) then Err TooDeep else Ok (canvas, (key, becoming))) (sym put_head)

    both_ok : (long sub deep keeps : Bool) (c : ℕ × Entry)
        → ◌≡◌ {A = Result (ℕ × Entry) EditRefusal} (if long then Err TextTooLong else if sub && deep then Err TooDeep else Ok (canvas, coming_box)) (Ok c)
        → (◌≡◌ {A = Result (ℕ × (ℕ × Entry)) EditRefusal} (if long then Err TextTooLong else if sub && (not keeps && deep) then Err TooDeep else Ok (canvas, (key, becoming))) (Ok (canvas, (key, becoming)))) × (canvas ≡ c.0)
    unfolding place
    both_ok true sub deep keeps c h = cc
    both_ok false true true keeps c h = cc
    both_ok false true false true c h = (refl, ap (place canvas) h)
    both_ok false true false false c h = (refl, ap (place canvas) h)
    both_ok false false deep keeps c h = (refl, ap (place canvas) h)

    both_ask : (long sub deep keeps : Bool) → IsComing (if long then Err TextTooLong else if sub && deep then Err TooDeep else Ok (canvas, coming_box))
        → IsRetyping (if long then Err TextTooLong else if sub && (not keeps && deep) then Err TooDeep else Ok (canvas, (key, becoming)))
    both_ask true sub deep keeps h = absurd h
    both_ask false true true keeps h = absurd h
    both_ask false true false true h = tt
    both_ask false true false false h = tt
    both_ask false false deep keeps h = tt

    pub comes_ok : (c : ℕ × Entry) → coming names p path (put_instead (entry_of node.element) text) ≡ Ok c
        → (retyping names p path number text ≡ Ok (canvas, (key, becoming))) × (canvas ≡ c.0)
    comes_ok c h =
        let both = both_ok (nat_lt 1024 (length coming_box.head.text)) (is_sub coming_box.head.form) (nat_lt 254 depth) (keeps_inside (entry_of node.element) written) c (sym coming_is ∙ h) in
        (retyping_is ∙ both.0, both.1)

    pub comes_asks : IsComing (coming names p path (put_instead (entry_of node.element) text)) → IsRetyping (retyping names p path number text)
    comes_asks h = subst IsRetyping (sym retyping_is)
        (both_ask (nat_lt 1024 (length coming_box.head.text)) (is_sub coming_box.head.form) (nat_lt 254 depth) (keeps_inside (entry_of node.element) written) (subst IsComing coming_is h))
