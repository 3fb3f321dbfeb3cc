-- The message of a command that is read is in order.
use Rattle.std.proofs.Common.{◌≡◌, ℕ, cond, zero, suc, List, [], ◌∷◌, Option, Some, None, IfSome, Result, Ok, Err, IfOk, sym, subst, arith}
use Rattle.std.specs.List.{list_all}
use Rattle.pd_atom.specs.Names.{Names, Extends, Outcome, answer_map, interned}
use Rattle.pd_atom.specs.Tokens.{nameless, named, atom_read}
use Rattle.pd_atom.specs.declared.Atom.{Atom}
use Rattle.pd_atom.specs.declared.Atom.TheVariants as atom
use Rattle.pd_atom.specs.declared.SymbolRefusal.{SymbolRefusal}
use Rattle.pd_atom.proofs.TokenLemmas.{by_option, atom_read_some, atom_read_none, of_any}
use Rattle.pd_kind.specs.declared.messages.Target.TheVariants.{Outlet}
use Rattle.pd_kind.specs.Forming.{message_send, normal_send, cut_atoms}
use Rattle.pd_script.specs.declared.commands.Command.{Command}
use Rattle.pd_script.specs.declared.commands.Command.TheVariants as command
use Rattle.pd_script.specs.Options.{◌>>=◌}
use Rattle.pd_script.specs.Atoms.{answered, atom_of, atoms_of, is_plain, symbol_in, symbol_of}
use Rattle.pd_script.specs.Scripts.{send_of}
use Rattle.pd_guards.specs.Order.{HasFirst, IsName, IsAtom, AreAtoms}
use Rattle.pd_guards.specs.Worlds.{IsNamed, IsSent}
use Rattle.pd_guards.proofs.FactLemmas.{either}
use Rattle.pd_guards.proofs.MoreLemmas.{longer, name_more, atom_more}
use Rattle.pd_guards.proofs.BaseLemmas.{list_selector-in, float_of, symbol_of-in, cut_in}
use Rattle.pd_guards.proofs.NameLemmas.{same_table, IsInterned, interned_in, named_in, IsNameless, nameless_in}
use Rattle.pd_message.proofs.TextLemmas.{extends_onward}

-- what is read of a token
record IsRead (names : Names) (o : Outcome Atom) : Type 0 where
  extends : Extends names o.names
  answer : IfOk o.answer (IsAtom o.names)

named_answer : (names : Names) (token : List ℕ) (r : Result ℕ SymbolRefusal) → IfOk r (IsName names) → IfOk (answer_map (named token) r) (IsAtom names)
named_answer names token (Ok s) h = named_in names token s h
named_answer names token (Err e) h = tt

read_in : (names : Names) (token : List ℕ) → IsRead names (atom_read names token)
unfolding IsNameless
read_in names token =
    by_option (nameless token)
    (λ none. let i : IsInterned names (interned names token) = interned_in names token in
    subst (IsRead names) (sym (atom_read_none names token none)) (record { extends = i.extends; answer = named_answer (interned names token).names token (interned names token).answer i.answer }))
    (λ b some. let n : IfSome (Some b) IsNameless = subst (λ (o : Option Atom). IfSome o IsNameless) some (nameless_in token) in
    subst (IsRead names) (sym (atom_read_some names token b some)) (record { extends = same_table names; answer = (of_any names b n.0, n.1) }))

record BringsAtom (names : Names) (o : Option (Atom × Names)) : Type 0 where
  is : IfSome o (λ x. Extends names x.1 × IsAtom x.1 x.0)

answered_in : (names after : Names) (r : Result Atom SymbolRefusal) → Extends names after → IfOk r (IsAtom after) → BringsAtom names (answered after r)
answered_in names after (Ok a) x h = record { is = (x, h) }
answered_in names after (Err e) x h = record { is = tt }

atom_in : (names : Names) (token : List ℕ) → BringsAtom names (atom_of names token)
unfolding atom_of
atom_in names token = let r : IsRead names (atom_read names token) = read_in names token in answered_in names (atom_read names token).names (atom_read names token).answer r.extends r.answer

record BringsAtoms (names : Names) (o : Option (List Atom × Names)) : Type 0 where
  is : IfSome o (λ x. Extends names x.1 × AreAtoms x.1 x.0)

rest_in : (names more : Names) (a : Atom) (o : Option (List Atom × Names)) → Extends names more → IsAtom more a → BringsAtoms more o → BringsAtoms names (o >>= (λ rest. Some (a ∷ rest.0, rest.1)))
rest_in names more a None x h k = record { is = tt }
rest_in names more a (Some y) x h k = record { is = (extends_onward names more y.1 x k.is.0, (atom_more more y.1 (longer more y.1 k.is.0) a h, k.is.1)) }

next_in : (names : Names) (ts : List (List ℕ)) (o : Option (Atom × Names)) → BringsAtom names o → ((more : Names) → BringsAtoms more (atoms_of more ts))
    → BringsAtoms names (o >>= (λ a. atoms_of a.1 ts >>= (λ rest. Some (a.0 ∷ rest.0, rest.1))))
next_in names ts None h k = record { is = tt }
next_in names ts (Some a) h k = rest_in names a.1 a.0 (atoms_of a.1 ts) h.is.0 h.is.1 (k a.1)

atoms_in : (ts : List (List ℕ)) (names : Names) → BringsAtoms names (atoms_of names ts)
unfolding atoms_of
atoms_in [] names = record { is = (same_table names, tt) }
atoms_in (t ∷ ts) names = next_in names ts (atom_of names t) (atom_in names t) (λ more. atoms_in ts more)

-- the name to which the message goes
record BringsName (names : Names) (o : Option (ℕ × Names)) : Type 0 where
  is : IfSome o (λ x. Extends names x.1 × IsName x.1 x.0)

symbol_there : (names more : Names) (a : Atom) → Extends names more → IsAtom more a → BringsName names (symbol_in a >>= (λ s. Some (s, more)))
symbol_there names more (atom.Number z) x h = record { is = tt }
symbol_there names more (atom.Symbol s) x h = record { is = (x, h.0) }
symbol_there names more (atom.Dollar n) x h = record { is = tt }
symbol_there names more (atom.DollarSymbol s) x h = record { is = tt }
symbol_there names more atom.Comma x h = record { is = tt }
symbol_there names more atom.Semi x h = record { is = tt }

symbol_by : (names : Names) (o : Option (Atom × Names)) → BringsAtom names o → BringsName names (o >>= (λ a. symbol_in a.0 >>= (λ s. Some (s, a.1))))
symbol_by names None h = record { is = tt }
symbol_by names (Some a) h = symbol_there names a.1 a.0 h.is.0 h.is.1

symbol_read : (names : Names) (token : List ℕ) → BringsName names (symbol_of names token)
symbol_read names token = symbol_by names (atom_of names token) (atom_in names token)

-- a command that sends
SendsWell : Names → Names → Command → Type 0
SendsWell names after (command.Send s atoms) = IsSent names after s atoms
SendsWell names after c = Unit {0}

record BringsCommand (names : Names) (o : Option (Command × Names)) : Type 0 where
  is : IfSome o (λ x. SendsWell names x.1 x.0)

atoms_by : (names more : Names) (s : ℕ) (o : Option (List Atom × Names)) → Extends names more → IsName more s → BringsAtoms more o
    → BringsCommand names (o >>= (λ a. cond (list_all is_plain a.0) (Some (command.Send s a.0, a.1)) None))
unfolding SendsWell
atoms_by names more s None x h k = record { is = tt }
atoms_by names more s (Some a) x h k =
    either (BringsCommand names) (list_all is_plain a.0) (Some (command.Send s a.0, a.1)) None
    (record { is = record { extends = extends_onward names more a.1 x k.is.0; known = name_more more a.1 (longer more a.1 k.is.0) s h; atoms_known = k.is.1 } })
    (record { is = tt })

name_by : (names : Names) (ts : List (List ℕ)) (o : Option (ℕ × Names)) → BringsName names o
    → BringsCommand names (o >>= (λ s. atoms_of s.1 ts >>= (λ a. cond (list_all is_plain a.0) (Some (command.Send s.0 a.0, a.1)) None)))
name_by names ts None h = record { is = tt }
name_by names ts (Some s) h = atoms_by names s.1 s.0 (atoms_of s.1 ts) h.is.0 h.is.1 (atoms_in ts s.1)

command_in : (names : Names) (ts : List (List ℕ)) → BringsCommand names (send_of names ts)
unfolding send_of
command_in names [] = record { is = tt }
command_in names (name ∷ ts) = name_by names ts (symbol_of names name) (symbol_read names name)

pub sent_in : (names : Names) (ts : List (List ℕ)) (s : ℕ) (atoms : List Atom) (after : Names) → send_of names ts ≡ Some (command.Send s atoms, after) → IsSent names after s atoms
unfolding SendsWell
sent_in names ts s atoms after e =
    let b : BringsCommand names (send_of names ts) = command_in names ts in
    subst (λ (o : Option (Command × Names)). IfSome o (λ x. SendsWell names x.1 x.0)) e b.is

-- the message that atoms make, which may be too long before it is cut
record IsLong (names : Names) (selector : ℕ) (atoms : List Atom) : Type 0 where
  known : IsName names selector
  all : AreAtoms names atoms

module _ (names : Names) (first : HasFirst names) where
  normal_in : (selector : ℕ) (atoms : List Atom) → IsName names selector → AreAtoms names atoms → IsLong names (normal_send (Outlet 0) selector atoms).selector (normal_send (Outlet 0) selector atoms).atoms
  normal_in zero atoms n h = record { known = n; all = tt }
  normal_in (suc zero) atoms n h = record { known = n; all = ((tt, float_of names first atoms h), tt) }
  normal_in (suc (suc zero)) atoms n h = record { known = n; all = ((symbol_of-in names first atoms h, tt), tt) }
  normal_in (suc (suc (suc zero))) atoms n h = record { known = list_selector-in names first atoms; all = h }
  normal_in (suc (suc (suc (suc m)))) atoms n h = record { known = n; all = h }

  long_in : (atoms : List Atom) → AreAtoms names atoms → IsLong names (message_send (Outlet 0) atoms).selector (message_send (Outlet 0) atoms).atoms
  long_in [] h = record { known = omega (arith, first); all = tt }
  long_in (atom.Symbol s ∷ atoms) h = normal_in s atoms h.0.0 h.1
  long_in (atom.Number z ∷ atoms) h = record { known = list_selector-in names first (atom.Number z ∷ atoms); all = h }
  long_in (atom.Dollar n ∷ atoms) h = record { known = list_selector-in names first (atom.Dollar n ∷ atoms); all = h }
  long_in (atom.DollarSymbol s ∷ atoms) h = record { known = list_selector-in names first (atom.DollarSymbol s ∷ atoms); all = h }
  long_in (atom.Comma ∷ atoms) h = record { known = list_selector-in names first (atom.Comma ∷ atoms); all = h }
  long_in (atom.Semi ∷ atoms) h = record { known = list_selector-in names first (atom.Semi ∷ atoms); all = h }

  pub begins_well : (name : ℕ) (atoms : List Atom) → IsName names name → AreAtoms names atoms
      → IsNamed names name (message_send (Outlet 0) atoms).selector (cut_atoms (message_send (Outlet 0) atoms).atoms)
  begins_well name atoms n h =
      let l : IsLong names (message_send (Outlet 0) atoms).selector (message_send (Outlet 0) atoms).atoms = long_in atoms h in
      record { known = n; message = record { known = l.known; list = cut_in names first (message_send (Outlet 0) atoms).atoms l.all } }
