use Rattle.console_input.proofs.PlainRequest.{by_args}
use Rattle.console_input.proofs.book.a_plain_request_is_an_order.Goals as goal

pub returns : goal.returns
returns c = by_args
