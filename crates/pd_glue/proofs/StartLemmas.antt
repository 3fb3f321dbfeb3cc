-- What a box keeps at first has small lists, and its atoms are of the table.
use Rattle.std.proofs.Common.{◌≤◌, subst, sym}
use Rattle.std.proofs.lemmas.List.{length-map}
use Rattle.pd_atom.specs.Names.{Names}
use Rattle.pd_clock.specs.declared.times.Rate.{Rate}
use Rattle.pd_object.specs.declared.kinds.Glue.{Glue}
use Rattle.pd_object.specs.declared.kinds.Glue.TheVariants as glue
use Rattle.pd_object.specs.declared.kinds.Kind.{Kind}
use Rattle.pd_object.specs.declared.kinds.Kind.TheVariants as kind
use Rattle.pd_object.specs.Ports.{IsSmallGlue, IsSmallKind}
use Rattle.pd_kind.specs.States.{glue_start, slot_start, start_of}
use Rattle.pd_plain.specs.Rows.{HasText}
use Rattle.pd_glue.specs.Rows.{KeepsList, KeepsText, IsSmallBox, IsSmall, HasTextOf, HasTexts}

lists_kept : (g : Glue) (r : Rate) → IsSmallGlue g → KeepsList g (glue_start g r)
lists_kept (glue.Message text) r h = tt
lists_kept (glue.FloatBox text) r h = tt
lists_kept (glue.SymbolBox text) r h = tt
lists_kept glue.Comment r h = tt
lists_kept (glue.Array text values) r h = tt
lists_kept (glue.Bang w) r h = tt
lists_kept (glue.Float w z) r h = tt
lists_kept (glue.Int w z) r h = tt
lists_kept (glue.Symbol s) r h = tt
lists_kept (glue.Trigger w outs) r h = tt
lists_kept (glue.Pack slots) r h = subst (λ n. n ≤ 1024) (sym (length-map slots slot_start)) h
lists_kept (glue.Unpack slots) r h = tt
lists_kept (glue.Route args) r h = h
lists_kept (glue.Select w args) r h = h
lists_kept (glue.Moses z) r h = tt
lists_kept (glue.Spigot z) r h = tt
lists_kept (glue.Swap z) r h = tt
lists_kept (glue.Change z) r h = tt
lists_kept glue.Until r h = tt
lists_kept glue.Loadbang r h = tt
lists_kept (glue.Print ws) r h = tt
lists_kept (glue.Send w name) r h = tt
lists_kept (glue.Receive w name) r h = tt
lists_kept (glue.Metro z) r h = tt
lists_kept (glue.Delay w z) r h = tt
lists_kept glue.Timer r h = tt
lists_kept (glue.Random z) r h = tt
lists_kept (glue.ListAppend w atoms) r h = h
lists_kept (glue.ListPrepend atoms) r h = h
lists_kept (glue.ListSplit z) r h = tt
lists_kept glue.ListTrim r h = tt
lists_kept glue.ListLength r h = tt
lists_kept (glue.Port s) r h = tt
lists_kept (glue.Table name z) r h = tt
lists_kept (glue.Tabread name) r h = tt
lists_kept (glue.Tabwrite name) r h = tt

message_kept : (names : Names) (g : Glue) (r : Rate) → IsSmallGlue g → HasTextOf names g → KeepsText names g (glue_start g r)
message_kept names (glue.Message text) r h t = record { of_table = t; small = h }
message_kept names (glue.FloatBox text) r h t = tt
message_kept names (glue.SymbolBox text) r h t = tt
message_kept names glue.Comment r h t = tt
message_kept names (glue.Array text values) r h t = tt
message_kept names (glue.Bang w) r h t = tt
message_kept names (glue.Float w z) r h t = tt
message_kept names (glue.Int w z) r h t = tt
message_kept names (glue.Symbol s) r h t = tt
message_kept names (glue.Trigger w outs) r h t = tt
message_kept names (glue.Pack slots) r h t = tt
message_kept names (glue.Unpack slots) r h t = tt
message_kept names (glue.Route args) r h t = tt
message_kept names (glue.Select w args) r h t = tt
message_kept names (glue.Moses z) r h t = tt
message_kept names (glue.Spigot z) r h t = tt
message_kept names (glue.Swap z) r h t = tt
message_kept names (glue.Change z) r h t = tt
message_kept names glue.Until r h t = tt
message_kept names glue.Loadbang r h t = tt
message_kept names (glue.Print ws) r h t = tt
message_kept names (glue.Send w name) r h t = tt
message_kept names (glue.Receive w name) r h t = tt
message_kept names (glue.Metro z) r h t = tt
message_kept names (glue.Delay w z) r h t = tt
message_kept names glue.Timer r h t = tt
message_kept names (glue.Random z) r h t = tt
message_kept names (glue.ListAppend w atoms) r h t = tt
message_kept names (glue.ListPrepend atoms) r h t = tt
message_kept names (glue.ListSplit z) r h t = tt
message_kept names glue.ListTrim r h t = tt
message_kept names glue.ListLength r h t = tt
message_kept names (glue.Port s) r h t = tt
message_kept names (glue.Table name z) r h t = tt
message_kept names (glue.Tabread name) r h t = tt
message_kept names (glue.Tabwrite name) r h t = tt

texts_kept : (names : Names) (g : Glue) → HasTextOf names g → HasText names g
texts_kept names (glue.Message text) t = tt
texts_kept names (glue.FloatBox text) t = t
texts_kept names (glue.SymbolBox text) t = t
texts_kept names glue.Comment t = tt
texts_kept names (glue.Array text values) t = tt
texts_kept names (glue.Bang w) t = tt
texts_kept names (glue.Float w z) t = tt
texts_kept names (glue.Int w z) t = tt
texts_kept names (glue.Symbol s) t = tt
texts_kept names (glue.Trigger w outs) t = tt
texts_kept names (glue.Pack slots) t = tt
texts_kept names (glue.Unpack slots) t = tt
texts_kept names (glue.Route args) t = tt
texts_kept names (glue.Select w args) t = tt
texts_kept names (glue.Moses z) t = tt
texts_kept names (glue.Spigot z) t = tt
texts_kept names (glue.Swap z) t = tt
texts_kept names (glue.Change z) t = tt
texts_kept names glue.Until t = tt
texts_kept names glue.Loadbang t = tt
texts_kept names (glue.Print ws) t = tt
texts_kept names (glue.Send w name) t = tt
texts_kept names (glue.Receive w name) t = tt
texts_kept names (glue.Metro z) t = tt
texts_kept names (glue.Delay w z) t = tt
texts_kept names glue.Timer t = tt
texts_kept names (glue.Random z) t = tt
texts_kept names (glue.ListAppend w atoms) t = tt
texts_kept names (glue.ListPrepend atoms) t = tt
texts_kept names (glue.ListSplit z) t = tt
texts_kept names glue.ListTrim t = tt
texts_kept names glue.ListLength t = tt
texts_kept names (glue.Port s) t = tt
texts_kept names (glue.Table name z) t = tt
texts_kept names (glue.Tabread name) t = tt
texts_kept names (glue.Tabwrite name) t = tt

box_small : (names : Names) (g : Glue) (r : Rate) → IsSmallGlue g → HasTextOf names g → IsSmallBox names g (glue_start g r)
box_small names g r h t = record { kind = h; text = texts_kept names g t; lists = lists_kept g r h; message = message_kept names g r h t }

pub start_small : (names : Names) (k : Kind) (r : Rate) → IsSmallKind k → HasTexts names k → IsSmall names k (start_of k r)
start_small names (kind.Arith a) r h t = tt
start_small names (kind.Glue g) r h t = box_small names g r h t
start_small names (kind.Tone a) r h t = tt
start_small names (kind.Signal a) r h t = tt
start_small names (kind.Panel a) r h t = tt
start_small names kind.Vline r h t = tt
start_small names kind.Unmade r h t = tt
start_small names kind.Canvas r h t = tt
