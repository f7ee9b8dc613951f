mod LastCalls
