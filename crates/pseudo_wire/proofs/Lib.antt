mod MarkedPoints
