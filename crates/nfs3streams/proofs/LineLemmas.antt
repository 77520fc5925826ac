-- What clap finds in a line.
use Rattle.std.proofs.Common.{◌≡◌, ◌∙◌, ℕ, true, refl, sym, ap, subst, List, [], Option, None, Some, inl, inr, ◌⊎◌, codes, Ok, Err, unwrap_or, Global, IfErr, IfOk, Result, Vec}
use Rattle.clap.specs.Words.{App, HasMatchesOf, Row, all_of, first_of, found_of, is_simple, is_simple_and_free, rows_of}
use Rattle.clap.specs.declared.parser.matches.ArgMatches.{ArgMatches}
use Rattle.clap.proofs.OnLiterals.{clap_on_literals}
use Rattle.line3.specs.Asked.{IsRefusedBy, IsUsage}
use Rattle.line3.specs.declared.asked.LineFault.{LineFault}
use Rattle.line3.specs.declared.asked.LineFault.TheVariants.{Usage, Memory}
use Rattle.nfs3streams.specs.Grammar.{streams_app}
use Rattle.nfs3streams.specs.Ports.{AreAllPorts}
use Rattle.nfs3streams.specs.StreamsLine.{AreStreamsWordsRefused, AsksForStreams, IsJobIn, IsRefusedIn, IsUsageUnless, found_in, values_named}
use Rattle.nfs3streams.specs.declared.line.asked.StreamsJob.{StreamsJob}

simple : is_simple streams_app ≡ true
unfolding clap_on_literals
simple = refl

pub simple_and_free : (app : App) → app ≡ streams_app → is_simple_and_free app ≡ true
unfolding clap_on_literals
simple_and_free app is = ap is_simple_and_free is ∙ refl

-- what is found in the words of a line
pub found_by : (app : App) (words : List (List ℕ)) (matches : ArgMatches) → app ≡ streams_app
    → HasMatchesOf app words matches → rows_of (found_of matches) ≡ found_in words
unfolding found_in
found_by app words matches is has =
    let h = subst (λ (a : App). HasMatchesOf a words matches) is has in
    (h simple).0

pub asks : (words : List (List ℕ)) (rows : List Row) (job : StreamsJob) → rows ≡ found_in words
    → IsJobIn rows job → AsksForStreams words job
asks words rows job is in_rows = subst (λ (r : List Row). IsJobIn r job) is in_rows

pub refused_in : (words : List (List ℕ)) (rows : List Row) (fault : LineFault)
    → rows ≡ found_in words → IsRefusedIn rows fault → AreStreamsWordsRefused words fault
refused_in words rows fault is refused =
    inr (subst (λ (r : List Row). IsRefusedIn r fault) is refused)

-- clap refuses the words
pub refused_by : (app : App) (words : List (List ℕ)) (fault : LineFault) → app ≡ streams_app
    → IsRefusedBy app words fault → AreStreamsWordsRefused words fault
refused_by app words fault is refused =
    inl (subst (λ (a : App). IsRefusedBy a words fault) is refused)

-- so of results
pub asks_for : (words : List (List ℕ)) (rows : List Row) (r : Result StreamsJob LineFault)
    → rows ≡ found_in words → IfOk r (IsJobIn rows) → IfOk r (AsksForStreams words)
asks_for words rows (Ok job) is asked = asks words rows job is asked
asks_for words rows (Err fault) is asked = tt

pub refused_for : (words : List (List ℕ)) (rows : List Row) (r : Result StreamsJob LineFault)
    → rows ≡ found_in words → IfErr r (IsRefusedIn rows)
    → IfErr r (AreStreamsWordsRefused words)
refused_for words rows (Ok job) is refused = tt
refused_for words rows (Err fault) is refused = refused_in words rows fault is refused

-- ---- the job of what is found

-- a name is missing
pub no_name : (rows : List Row) (fault : LineFault) → IsUsage fault
    → (first_of (codes "RECORDING") rows ≡ None) ⊎ (first_of (codes "OUT") rows ≡ None)
    → IsRefusedIn rows fault
no_name rows (Usage text) is none =
    λ job. elim none [
      | inl recording ↦ let e = sym recording ∙ job.1.recording in absurd (cc)
      | inr output ↦ let e = sym output ∙ job.1.output in absurd (cc)
    ]
no_name rows Memory is none = tt
no_name rows _ is none = absurd is

-- a word names no ports
pub no_ports : (rows : List Row) (fault : LineFault)
    → IsUsageUnless ((ports : List ℕ) × AreAllPorts (values_named (codes "PORT") rows) ports) fault
    → IsRefusedIn rows fault
no_ports rows (Usage text) is = λ job. is (job.0.ports.items, job.1.ports)
no_ports rows Memory is = tt
no_ports rows _ is = absurd is

-- ---- the values of --port

abbrev ports_in : List Row → Option (List (List ℕ))
ports_in rows = all_of (codes "PORT") rows

pub ports_of_some : (rows : List Row) (values : List (List ℕ)) (r : Result (Vec ℕ Global) LineFault)
    → Some values ≡ ports_in rows → IfOk r (λ ports. AreAllPorts values ports.items)
    → IfOk r (λ ports. AreAllPorts (values_named (codes "PORT") rows) ports.items)
ports_of_some rows values r is named =
    subst (λ o. IfOk r (λ ports. AreAllPorts (unwrap_or o []) ports.items)) is named

pub usage_of_some : (rows : List Row) (values : List (List ℕ)) (r : Result (Vec ℕ Global) LineFault)
    → Some values ≡ ports_in rows
    → IfErr r (IsUsageUnless ((ports : List ℕ) × AreAllPorts values ports))
    → IfErr r (IsUsageUnless ((ports : List ℕ)
    × AreAllPorts (values_named (codes "PORT") rows) ports))
usage_of_some rows values r is named =
    subst
    (λ o. IfErr r (IsUsageUnless ((ports : List ℕ) × AreAllPorts (unwrap_or o []) ports))) is
    named

pub ports_of_none : (rows : List Row) (ports : List ℕ) → None ≡ ports_in rows → ports ≡ []
    → AreAllPorts (values_named (codes "PORT") rows) ports
ports_of_none rows ports is none =
    subst (λ o. AreAllPorts (unwrap_or o []) ports) is
    (subst (λ l. AreAllPorts [] l) (sym none) tt)
