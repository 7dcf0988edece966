use Rattle.std.proofs.Common.{ap, ◌∙◌}
use Rattle.replies.specs.declared.work.Work.{Work}
use Rattle.requests.specs.Requests.{write_meant}
use Rattle.store.proofs.Answered.{write_spelt}
use Rattle.store.proofs.store.Store.write.Goals as goal

pub send-requires-clause-fits : goal.send-requires-clause-fits
send-requires-clause-fits g c =
    let k = c.fill.ensures.work in
    write_spelt c.args.self.now (g.S.Site.model c.args.site.now).opened c.handle.ensures.few _ (write_meant c.args.request) c.asked_by-asked.result _ _ _ _
    c.requires.fits c.handle.ensures.ran (c.begun.ensures ∙ ap (λ (z : Work). z.begun) k) (c.completed.ensures ∙ ap (λ (z : Work). z.completed) k)
    (c.failed.ensures ∙ ap (λ (z : Work). z.failed) k) c.write_reply-reply.ensures
