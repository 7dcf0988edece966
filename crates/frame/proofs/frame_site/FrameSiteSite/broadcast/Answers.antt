use Rattle.std.proofs.Common.{rules}
use Rattle.site.specs.Messages.{aired}
use Rattle.frame.specs.Record.{record_octets}
use Rattle.frame.proofs.Puts.{written_free}
use Rattle.frame.proofs.frame_site.FrameSiteSite.broadcast.Goals as goal

pub returns-then-self : goal.returns-then-self
returns-then-self c = record {
  meaning = search rules;
  itself = record {
    lender = search rules;
    memory = written_free c.args.self.now.used (record_octets c.args.cell c.args.channel (aired c.args.message)) _ _ c.write_record.ensures.written c.if-self-ge-MEMORY.true c.if-self.true;
    used = search rules;
    most = search rules;
    left = search rules;
  };
}
