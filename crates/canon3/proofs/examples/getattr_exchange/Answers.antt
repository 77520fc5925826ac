use Rattle.canon3.proofs.Common.{refl, call_layout, start_of_type, reply_layout, arguments_of, results_of, checked}
use Rattle.capture3.proofs.Lemmas.Container.BytesOf.{all_bytes}
use Rattle.xdr3.specs.Layout.{reading_layout}
use Rattle.xdr3.specs.Reading.{reading}
use Rattle.record_mark.specs.RecordMark.{is_last, length_of}
use Rattle.record_mark.specs.Word.{number}
use Rattle.rpc_head.specs.Shapes.{accept, call_head, credential, deny, message_start, reply_head, verifier}
use Rattle.xdr3.specs.Item.{called}
use Rattle.nfs3_types.specs.Shapes.{attributes, handle, results, status, time_named}
use Rattle.procs3.specs.Table.{nfs_procedures}
use Rattle.capture3.specs.BodyProgram.{judge_call, judge_reply}
use Rattle.capture3.proofs.Lemmas.Files.Verdicts.{typed_from_verdict}
use Rattle.canon3.specs.Examples.{IsWorked, exchange, exchange_entries, exchange_form}
use Rattle.canon3.proofs.examples.getattr_exchange.Goals as goal

worked : IsWorked exchange exchange_entries exchange_form
unfolding all_bytes number is_last length_of judge_call judge_reply reading reading_layout
    message_start call_layout start_of_type call_head reply_layout reply_head credential
    verifier accept deny arguments_of results_of nfs_procedures called handle time_named
    attributes status results
worked =
    record {
      typed = typed_from_verdict exchange exchange_entries (checked exchange refl) refl;
      form_is = refl;
    }

pub returns-clause-worked : goal.returns-clause-worked
returns-clause-worked c = worked

pub returns-clause-counts : goal.returns-clause-counts
returns-clause-counts c =
    record {
      entries = exchange_entries;
      typed = worked.typed;
      connections = refl;
      calls = refl;
      replies = refl;
      handles = refl;
    }
