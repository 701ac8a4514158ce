-- From the session's contracts to the promises of demand 3.
mod Promises
