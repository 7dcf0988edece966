-- The laws of the requests.
use Rattle.std.proofs.Common.{◌≡◌, ℕ, ◌≤◌, true, List, [], length, get_or, Some, None, Ok, Option, refl, arith}
use Rattle.cbsp.specs.declared.message_type.MessageType.{MessageType}
use Rattle.cbsp.specs.declared.message_type.MessageType.TheVariants as type
use Rattle.cbsp.specs.Types.{type_code, type_of}
use Rattle.elements.specs.Octets.{Octets}
use Rattle.elements.specs.Codec.{Lawful}
use Rattle.elements.specs.Parts.{keep_alive_period, number_of_pages, coding_scheme}
use Rattle.elements.specs.Whole.{headed}
use Rattle.elements.proofs.Standing.{not_ok}
use Rattle.elements.proofs.Laws.{lawful_seq, lawful_via}
use Rattle.elements.proofs.Codings.{channel_lawful}
use Rattle.elements.proofs.PartLaws.{number_lawful, may_number_lawful, category_lawful, period_lawful, pages_lawful, coding_lawful, keep_alive_lawful}
use Rattle.elements.proofs.Whole.{Kept, kind_forth, kind_back}
use Rattle.lists.specs.Parts.{cells}
use Rattle.lists.proofs.PartLaws.{cells_lawful}
use Rattle.pages.specs.Pages.{page}
use Rattle.pages.proofs.PageLaws.{page_lawful, lawful_repeated}
use Rattle.requests.specs.Requests.{RequestV, write_replace, kill, status_query, reset, keep_alive, write_elements, write_to, write_from, writing, reference_elements, reference_to, reference_from, reference, read_request_of, read_request, request_type, spell_request, request_fits, RequestsRoundTrip}

pub writing_lawful : Lawful writing
writing_lawful =
    lawful_via write_to write_from write_elements (λ _. refl) (λ _. refl)
    (lawful_seq _ _ (number_lawful 14) (lawful_seq _ _ (number_lawful 3) (lawful_seq _ _ (may_number_lawful 2) (lawful_seq _ _ cells_lawful
    (lawful_seq _ _ channel_lawful (lawful_seq _ _ category_lawful (lawful_seq _ _ period_lawful (lawful_seq _ _ (number_lawful 7)
    (lawful_repeated number_of_pages coding_scheme page pages_lawful coding_lawful page_lawful (λ _. tt) (λ _. tt) (λ _. tt))))))))))

writing_ends : writing.Follow []
writing_ends = ((((((((tt, λ _ _. tt), λ _ _. tt), λ _ _. tt), λ _ _. tt), λ _ _. tt), λ _ _. (λ e. omega arith, omega arith, omega arith)), λ _ _. tt), λ _ _. tt)

pub reference_lawful : Lawful reference
reference_lawful =
    lawful_via reference_to reference_from reference_elements (λ _. refl) (λ _. refl)
    (lawful_seq _ _ (number_lawful 14) (lawful_seq _ _ (number_lawful 2) (lawful_seq _ _ cells_lawful channel_lawful)))

reference_ends : reference.Follow []
reference_ends = (((tt, λ _ _. tt), λ _ _. tt), λ _ _. tt)

request_forth :
    (t : Option MessageType) (os : List ℕ) (m : RequestV) → Octets os → 4 ≤ length os → read_request_of t os ≡ Ok m → Kept spell_request request_fits request_type t os m
request_forth (Some type.WriteReplace) os m o h e = kind_forth spell_request request_fits request_type type.WriteReplace writing write_replace writing_lawful (λ _. refl) (λ _. refl) (λ _. refl) os m o h e
request_forth (Some type.Kill) os m o h e = kind_forth spell_request request_fits request_type type.Kill reference kill reference_lawful (λ _. refl) (λ _. refl) (λ _. refl) os m o h e
request_forth (Some type.MessageStatusQuery) os m o h e = kind_forth spell_request request_fits request_type type.MessageStatusQuery reference status_query reference_lawful (λ _. refl) (λ _. refl) (λ _. refl) os m o h e
request_forth (Some type.Reset) os m o h e = kind_forth spell_request request_fits request_type type.Reset cells reset cells_lawful (λ _. refl) (λ _. refl) (λ _. refl) os m o h e
request_forth (Some type.KeepAlive) os m o h e = kind_forth spell_request request_fits request_type type.KeepAlive keep_alive_period keep_alive keep_alive_lawful (λ _. refl) (λ _. refl) (λ _. refl) os m o h e
request_forth (Some type.WriteReplaceComplete) os m o h e = absurd (not_ok _ _ e)
request_forth (Some type.WriteReplaceFailure) os m o h e = absurd (not_ok _ _ e)
request_forth (Some type.KillComplete) os m o h e = absurd (not_ok _ _ e)
request_forth (Some type.KillFailure) os m o h e = absurd (not_ok _ _ e)
request_forth (Some type.LoadQuery) os m o h e = absurd (not_ok _ _ e)
request_forth (Some type.LoadQueryComplete) os m o h e = absurd (not_ok _ _ e)
request_forth (Some type.LoadQueryFailure) os m o h e = absurd (not_ok _ _ e)
request_forth (Some type.MessageStatusQueryComplete) os m o h e = absurd (not_ok _ _ e)
request_forth (Some type.MessageStatusQueryFailure) os m o h e = absurd (not_ok _ _ e)
request_forth (Some type.SetDrx) os m o h e = absurd (not_ok _ _ e)
request_forth (Some type.SetDrxComplete) os m o h e = absurd (not_ok _ _ e)
request_forth (Some type.SetDrxFailure) os m o h e = absurd (not_ok _ _ e)
request_forth (Some type.ResetComplete) os m o h e = absurd (not_ok _ _ e)
request_forth (Some type.ResetFailure) os m o h e = absurd (not_ok _ _ e)
request_forth (Some type.Restart) os m o h e = absurd (not_ok _ _ e)
request_forth (Some type.Failure) os m o h e = absurd (not_ok _ _ e)
request_forth (Some type.ErrorIndication) os m o h e = absurd (not_ok _ _ e)
request_forth (Some type.KeepAliveComplete) os m o h e = absurd (not_ok _ _ e)
request_forth None os m o h e = absurd (not_ok _ _ e)

request_back : (m : RequestV) → request_fits m ≡ true → read_request (headed (type_code (request_type m)) (spell_request m)) ≡ Ok m
request_back (write_replace w) f = kind_back 1 writing write_replace writing_lawful writing_ends w f
request_back (kill r) f = kind_back 4 reference kill reference_lawful reference_ends r f
request_back (status_query r) f = kind_back 10 reference status_query reference_lawful reference_ends r f
request_back (reset c) f = kind_back 16 cells reset cells_lawful tt c f
request_back (keep_alive n) f = kind_back 22 keep_alive_period keep_alive keep_alive_lawful tt n f

pub requests_round_trip : RequestsRoundTrip
requests_round_trip = (λ os m o h e. let k = request_forth (type_of (get_or os 0 0)) os m o h e in (k.spelt, k.fit, k.typed), request_back)
